use mathlib.Core.Path.{◌≡◌, refl, sym, ap, ◌∙◌}
use mathlib.Core.Bool.{false}
use mathlib.Core.List.{List}
use Prim.Native.Nat.{ℕ}
use borrow.Author.Rules.{rules}
use lib.ListN.{length}
use Rattle.std.proofs.Common.{Ok, Err}
use Rattle.answers.specs.declared.Form.{Form}
use Rattle.answers.specs.declared.Refusal.{Refusal}
use Rattle.answers.specs.declared.Refusal.TheVariants.{UserLabelEmpty}
use Rattle.answers.specs.Try.{Try}
use Rattle.choose.specs.Choose.{form_of, reply_for}
use Rattle.filter_read.specs.Value.{Ping}
use Rattle.filter_read.specs.Internal.RawPing.{ping_at}
use Rattle.octets.specs.Buffer.{over}
use Rattle.octets.specs.Lists.{cut}
use Rattle.reply.specs.Reply.{Reply, octets_in}
use Rattle.reply.specs.Internal.RawReply.{reply_in}
use Rattle.table.specs.Context.{Context, context_of, context_format}
use Rattle.table.specs.Table.{Table, table_from}
use Rattle.locator.specs.declared.Answered.{Answered}
use Rattle.locator.specs.Answer.{Outcome, wrong_user, answer_as, octets_written}
use Rattle.locator.proofs.Laws.Answer.{refusal-given, user-refused, room_refused, reply_given}
use Rattle.locator.proofs.over.reply_to.Goals as goal
use Rattle.locator.proofs.over.reply_to.Goals.{After-form_for-form, After-octets-octets}

-- what was asked, and the form chosen for it
module _ (c : After-form_for-form) where
  abbrev table : Table
  table = table_from c.args.image.now

  abbrev ping : Ping
  ping = ping_at c.args.source.now c.args.ping

  abbrev room : ℕ
  room = length c.args.reply.now

  abbrev used : Context
  used = context_of (cut c.args.image.now c.args.context context_format.width)

-- the reply chosen, and that 18 found nothing
module _ (c : After-octets-octets) where
  abbrev said : Reply
  said = reply_in c.octets-octets.result.now c.args.source.now c.reply_for-raw.result

  abbrev octets : List ℕ
  octets = octets_in c.form_for-form.result said

  said-so : said ≡ reply_for (table_from c.args.image.now) c.args.caller (ping_at c.args.source.now c.args.ping) (context_of (cut c.args.image.now c.args.context context_format.width)) c.form_for-form.result
  said-so = ap (λ (image : List ℕ). reply_in image c.args.source.now c.reply_for-raw.result) c.octets-octets.ensures.same ∙ c.reply_for-raw.ensures

  user-good : false ≡ wrong_user c.form_for-form.result (ping_at c.args.source.now c.args.ping)
  unfolding wrong_user
  user-good = sym c.if-is_wrong_user.false ∙ c.is_wrong_user.ensures

pub returns-then-is_wrong_user : goal.returns-then-is_wrong_user
unfolding wrong_user
returns-then-is_wrong_user c =
    let a = c.args in
    let f = (goal.at.returns-then-is_wrong_user c).After-form_for-form in
    let form = c.form_for-form.result in
    let w = refusal-given _ UserLabelEmpty a.reply.now
    (user-refused (table f) a.caller (ping f) (room f) (used f) form (reply_for (table f) a.caller (ping f) (used f) form) c.form_for-form.ensures refl (sym c.if-is_wrong_user.true ∙ c.is_wrong_user.ensures)) in
    record { value = w.0; reply_after = w.1 }

pub returns-in_err-length : goal.returns-in_err-length
returns-in_err-length c =
    let a = c.args in
    let f = (goal.at.returns-in_err-length c).After-form_for-form in
    let g = (goal.at.returns-in_err-length c).After-octets-octets in
    let r = c.in_err-length.field-0.0 in
    let fit = c.in_err-length.ensures in
    let refused : ◌≡◌ {A = Try Answered} c.from_residual.result (Err r) = search rules in
    let refusal : Refusal → Try Answered = λ x. Err x in
    let e = room_refused (table f) a.caller (ping f) (room f) (used f) c.form_for-form.result (said g) c.form_for-form.ensures (said-so g) (user-good g) fit.fitted_to.0 in
    record {
      value = refused ∙ ap refusal fit.fitted_to.1 ∙ ap answer_as (sym e);
      reply_after = fit.out_after ∙ ap (λ (o : Try Outcome). over (octets_written o) a.reply.now) (sym e);
    }

pub returns : goal.returns
returns c =
    let a = c.args in
    let f = (goal.at.returns c).After-form_for-form in
    let g = (goal.at.returns c).After-octets-octets in
    let form = c.form_for-form.result in
    let fit = c.in_ok-length.ensures in
    let e = reply_given (table f) a.caller (ping f) (room f) (used f) form (said g) c.form_for-form.ensures (said-so g) (user-good g) fit.fitted_to.1 in
    let n = c.number.ensures ∙ ap (λ (x : List ℕ). (context_of x).number) (c.part.ensures ∙ ap (λ (x : List ℕ). cut x a.context context_format.width) c.octets-octets.ensures.same) in
    record {
      value = (λ i. Ok (record { length = fit.fitted_to.0 i; context = n i; form = form })) ∙ ap answer_as (sym e);
      reply_after = fit.out_after ∙ ap (λ (o : Try Outcome). over (octets_written o) a.reply.now) (sym e);
    }
