-- Two accounts of one context with names that are the same as a third are alike, and 4 refuses them.
use mathlib.Core.Path.{◌≡◌, refl, sym, ap, ap₂, ◌∙◌}
use mathlib.Core.Bool.{Bool, true, false, not, ◌&&◌, false≢true}
use mathlib.Core.List.{List, [], ◌∷◌}
use Prim.Native.Nat.{ℕ}
use borrow.Author.Tests.{eqb-true, eq-eqb, not-true}
use Rattle.octets.specs.Lists.{any, first, first_or, keep, keep_if, unique}
use Rattle.octets.proofs.Laws.Lists.{both_left, both_right, neither_left, neither_right}
use Rattle.account_names.specs.AccountName.{same_account_name}
use Rattle.account_names.proofs.Laws.NameOrder.{same-name_sym, same-name-left}
use Rattle.table.specs.declared.ContextNumber.{ContextNumber}
use Rattle.table.specs.Account.{Account}
use Rattle.table.specs.Countings.{same_context}
use Rattle.table_find.specs.Find.{is_account_of}
use Rattle.table_lookup.specs.Lookup.{account_by_name}
use Rattle.table_whole.specs.Whole.{accounts_unique}
use Rattle.table_whole.proofs.Laws.Judgement.{judged-whole}
use Rattle.table_lookup.specs.OnlyAccount.{alone, OnlyAccount}

-- a test that only alike elements pass is passed by one of those that are unique
module _ (alike : Account → Account → Bool) (p : Account → Bool) (joins : (a b : Account) → p a ≡ true → p b ≡ true → alike a b ≡ true) where
  none_kept : (a : Account) (others : List Account) → p a ≡ true → any (alike a) others ≡ false → keep p others ≡ []
  unfolding any keep
  none_kept a [] h e = refl
  none_kept a (b ∷ others) h e = go (p b) refl (none_kept a others h (neither_right (alike a b) (any (alike a) others) e))
    where
      go : (c : Bool) → p b ≡ c → keep p others ≡ [] → keep_if (p b) b (keep p others) ≡ []
      go true q rest = absurd (false≢true (sym (neither_left (alike a b) (any (alike a) others) e) ∙ joins a b h q))
      go false q rest = rw q rest

  pub kept_alone : (others : List Account) → unique alike others ≡ true → keep p others ≡ alone (first p others)
  unfolding unique keep first
  kept_alone [] e = refl
  kept_alone (a ∷ others) e = go (p a) refl (kept_alone others (both_right (not (any (alike a) others)) (unique alike others) e))
    where
      go : (c : Bool) → p a ≡ c → keep p others ≡ alone (first p others) → keep_if (p a) a (keep p others) ≡ alone (first_or (p a) a (first p others))
      go true q rest = rw q (ap (λ (s : List Account). a ∷ s) (none_kept a others q (not-true (any (alike a) others) (both_left (not (any (alike a) others)) (unique alike others) e))))
      go false q rest = rw q rest

-- two that are the account of a name in a context are alike
module _ (n : ContextNumber) (name : List ℕ) where
  pub accounts_join : (a b : Account) → is_account_of n name a ≡ true → is_account_of n name b ≡ true → (same_context a.context b.context && same_account_name a.name b.name) ≡ true
  accounts_join a b h k =
      let x : a.context.0 ≡ n.0 = eqb-true _ _ (both_left (same_context a.context n) (same_account_name a.name name) h) in
      let y : b.context.0 ≡ n.0 = eqb-true _ _ (both_left (same_context b.context n) (same_account_name b.name name) k) in
      let v : same_account_name a.name name ≡ true = both_right (same_context a.context n) (same_account_name a.name name) h in
      let w : same_account_name b.name name ≡ true = both_right (same_context b.context n) (same_account_name b.name name) k in
      ap₂ ◌&&◌ (eq-eqb a.context.0 b.context.0 (x ∙ sym y)) (same-name-left a.name name b.name v ∙ same-name_sym name b.name ∙ w)

pub only_account : OnlyAccount
unfolding account_by_name accounts_unique
only_account image t n name e =
    kept_alone (λ a b. same_context a.context b.context && same_account_name a.name b.name) (is_account_of n name) (accounts_join n name) t.accounts (judged-whole image t e).accounts
