use Rattle.std.proofs.Common.{rules, ◌≡◌, ℕ, ap, subst, ◌∙◌, Option, None, Err, ok_or}
use Rattle.answers.specs.declared.Refusal.{Refusal}
use Rattle.answers.specs.declared.Refusal.TheVariants.{MailslotShape}
use Rattle.answers.specs.Try.{Try}
use Rattle.mailslot.specs.declared.message.Message.{Message}
use Rattle.c_mailslot.specs.{Internal.Given.GivenBy, Message.message_of}
use Rattle.c_calls.proofs.Laws.Wide.{bad_unwritten}
use Rattle.c_calls.proofs.calls.message_written.Goals as goal

-- a number past its field's width: 41, as the definition gives it
pub returns-in_err-message-clause-value : goal.returns-in_err-message-clause-value
returns-in_err-message-clause-value c =
    let a = c.args in
    let r = c.in_err-message.field-0.0 in
    let refused : ◌≡◌ {A = Try ℕ} c.from_residual.result (Err r) = search rules in
    let none : c.message_given.result ≡ None = c.in_err-message.ensures.ok_part in
    let same : ◌≡◌ {A = Try Message} (Err r) (Err MailslotShape) = c.in_err-message.ensures.value ∙ ap (λ (o : Option Message). ok_or o MailslotShape) none in
    let shape : r ≡ MailslotShape = cc in
    let refusal : Refusal → Try ℕ = λ x. Err x in
    let wide = subst (GivenBy a.members.now) none c.message_given.ensures in
    refused ∙ ap refusal shape ∙ (bad_unwritten a.source.now (message_of a.members.now) a.out.now (wide a.source.now)).0

pub returns-in_err-message-clause-write_message_leaves : goal.returns-in_err-message-clause-write_message_leaves
returns-in_err-message-clause-write_message_leaves c =
    let a = c.args in
    let none : c.message_given.result ≡ None = c.in_err-message.ensures.ok_part in
    let wide = subst (GivenBy a.members.now) none c.message_given.ensures in
    (bad_unwritten a.source.now (message_of a.members.now) a.out.now (wide a.source.now)).1
