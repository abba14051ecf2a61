-- What holds of every name that the reader accepts holds of every name of a reply that it accepts, and there are as many as the form has.
use Rattle.std.proofs.Common.{Ok, Option, None, Some}
use mathlib.Core.Path.{◌≡◌, refl, ap, subst}
use mathlib.Core.Bool.{Bool, true, false, not}
use mathlib.Core.List.{List, [], ◌∷◌}
use Prim.Native.Nat.{ℕ, zero, suc}
use lib.Dec.{eqb}
use lib.ListN.{length}
use Rattle.answers.specs.declared.Form.{Form}
use Rattle.answers.specs.declared.Form.TheVariants.{Nt40, Response, Ex}
use Rattle.answers.specs.declared.Refusal.TheVariants.{ReplyFixed, ReplyLeftOver}
use Rattle.answers.specs.Wire.{netlogon_nt_version_5ex_with_ip, netlogon_nt_version_with_closest_site, nt40_version, response_version, ex_version, ex_version_with_next_site, ex_opcodes, Sbz, NullGuid, LmNtToken, Lm20Token}
use Rattle.answers.proofs.Laws.Try.{good_then, refused_if-good}
use Rattle.names.specs.Walk.{WalkedName}
use Rattle.octets.specs.Number.{has}
use Rattle.octets.specs.Sid.{guid_size, ipv4_size}
use Rattle.octets.proofs.Laws.Lists.{Every}
use Rattle.reader.specs.declared.field.Read.{Read}
use Rattle.reader.specs.Field.{read_stretch, read_fixed}
use Rattle.reader.specs.Name.{read_name}
use Rattle.reader.specs.Reader as reader
use Rattle.reader.specs.Reader.{NameRead, joined_name, read_constant, read_number, read_names, read_opcode, read_opening, read_tokens, read_nt40, read_response, read_address, has_next_site, read_last, read_ex, read_in}

module _ (s : List ℕ) (P : NameRead → Type 0) (named : (at : ℕ) (f : Read WalkedName) → read_name s at ≡ Ok f → P (joined_name at f.value)) where
  names_have : (n at : ℕ) (f : Read (List NameRead)) → read_names n s at ≡ Ok f → (length f.value ≡ n) × Every P f.value
  unfolding read_names
  names_have zero at f e = let z : record { value = []; next = at } ≡ f = cc in subst (λ (g : Read (List NameRead)). (length g.value ≡ 0) × Every P g.value) z (refl, tt)
  names_have (suc n) at f e =
      let a = good_then (read_name s at) _ f e in
      let b = good_then (read_names n s a.0.next) _ f a.2 in
      let rest = names_have n a.0.next b.0 b.1 in
      let z : record { value = joined_name at a.0.value ∷ b.0.value; next = b.0.next } ≡ f = cc in
      subst (λ (g : Read (List NameRead)). (length g.value ≡ suc n) × Every P g.value) z (ap suc rest.0, (named at a.0 a.1, rest.1))

  abbrev pub SiteHas : Option NameRead → Type 0
  SiteHas None = Unit {0}
  SiteHas (Some n) = P n

  abbrev pub AllHave : reader.Fields → Type 0
  AllHave (reader.nt40 f) = Unit {0}
  AllHave (reader.response f) = (length f.names ≡ 3) × Every P f.names
  AllHave (reader.ex f) = (length f.names ≡ 8) × Every P f.names × SiteHas f.next_site_lem

  tokens_keep : (at : ℕ) (fields f : reader.Fields) → read_tokens s at fields ≡ Ok f → fields ≡ f
  unfolding read_tokens
  tokens_keep at fields f e =
      let a = good_then (read_constant 2 LmNtToken s at) _ f e in
      let b = good_then (read_constant 2 Lm20Token s a.0.next) _ f a.2 in
      let d = refused_if-good (not (eqb b.0.next (length s))) ReplyLeftOver (Ok fields) f b.2 in
      let z : fields ≡ f = cc in z

  nt40-has : (f : reader.Fields) → read_nt40 s ≡ Ok f → AllHave f
  unfolding read_nt40
  nt40-has f e =
      let o = good_then (read_opening s) _ f e in
      let v = good_then (read_constant 4 nt40_version s o.0.next) _ f o.2 in
      subst AllHave (tokens_keep v.0.next _ f v.2) tt

  response-has : (f : reader.Fields) → read_response s ≡ Ok f → AllHave f
  unfolding read_response
  response-has f e =
      let o = good_then (read_opening s) _ f e in
      let g = good_then (read_stretch s o.0.next guid_size) _ f o.2 in
      let z = good_then (read_fixed s g.0.next NullGuid) _ f g.2 in
      let n = good_then (read_names 3 s z.0.next) _ f z.2 in
      let i = good_then (read_stretch s n.0.next ipv4_size) _ f n.2 in
      let b = good_then (read_number s i.0.next) _ f i.2 in
      let v = good_then (read_constant 4 response_version s b.0.next) _ f b.2 in
      subst AllHave (tokens_keep v.0.next _ f v.2) (names_have 3 z.0.next n.0 n.1)

  last_has : (present : Bool) (v at : ℕ) (l : Read reader.Last) → read_last present v s at ≡ Ok l → SiteHas l.value.next_site_lem
  unfolding read_last
  last_has false v at l e =
      let d = good_then (read_constant 4 ex_version s at) _ l e in
      let z : record { value = record { next_site_lem = None; version = ex_version }; next = d.0.next } ≡ l = cc in
      subst (λ (x : Read reader.Last). SiteHas x.value.next_site_lem) z tt
  last_has true v at l e =
      let n = good_then (read_name s at) _ l e in
      let d = good_then (read_constant 4 ex_version_with_next_site s n.0.next) _ l n.2 in
      let r = refused_if-good (not (has v netlogon_nt_version_with_closest_site)) ReplyFixed _ l d.2 in
      let z : record { value = record { next_site_lem = Some (joined_name at n.0.value); version = ex_version_with_next_site }; next = d.0.next } ≡ l = cc in
      subst (λ (x : Read reader.Last). SiteHas x.value.next_site_lem) z (named at n.0 n.1)

  ex-has : (v : ℕ) (f : reader.Fields) → read_ex v s ≡ Ok f → AllHave f
  unfolding read_ex
  ex-has v f e =
      let o = good_then (read_opcode ex_opcodes s) _ f e in
      let z = good_then (read_constant 2 Sbz s o.0.next) _ f o.2 in
      let b = good_then (read_number s z.0.next) _ f z.2 in
      let g = good_then (read_stretch s b.0.next guid_size) _ f b.2 in
      let n = good_then (read_names 8 s g.0.next) _ f g.2 in
      let i = good_then (read_address (has v netlogon_nt_version_5ex_with_ip) s n.0.next) _ f n.2 in
      let l = good_then (read_last (has_next_site s) v s i.0.next) _ f i.2 in
      let have = names_have 8 g.0.next n.0 n.1 in
      subst AllHave (tokens_keep l.0.next _ f l.2) (have.0, have.1, last_has (has_next_site s) v i.0.next l.0 l.1)

  pub all_have : (form : Form) (v : ℕ) (f : reader.Fields) → read_in form v s ≡ Ok f → AllHave f
  all_have Nt40 v f e = nt40-has f e
  all_have Response v f e = response-has f e
  all_have Ex v f e = ex-has v f e
