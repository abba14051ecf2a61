-- How far a user goes from an offset on: what is left decides.
use mathlib.Core.Path.{◌≡◌, refl, sym, ap, ◌∙◌}
use mathlib.Core.Bool.{Bool, true, false}
use mathlib.Core.List.{List, flat_map}
use Prim.Native.Nat.{ℕ, zero, suc, ◌+◌, ◌-◌, ◌≤◌, ◌<◌}
use native.Mathlib.Nat.{add-zero}
use native.Mathlib.Omega.{arith}
use lib.Dec.{eqb, ltb}
use lib.ListN.{length}
use lib.Seq.{take-length}
use borrow.Author.Tests.{eqb-true, eqb-false, ltb-true, ltb-false, le-leb}
use Rattle.octets.specs.Lists.{all, cut}
use Rattle.octets.specs.NameRule.{user_name_most}
use Rattle.octets.specs.Number.{u16_at}
use Rattle.octets.proofs.Laws.Lists.{true_not_false}
use Rattle.transcode.specs.Transcode.{are_octets}
use Rattle.unicode_text.specs.Utf16.{points_from16}
use Rattle.mailslot.specs.Message.{is_message_user}
use Rattle.mailslot.specs.Internal.Runs.{user_left, Stops, Character, Running, TextRun}
use Rattle.mailslot.specs.Internal.Shape.{EndsText}
use Rattle.mailslot.proofs.Laws.Character.{one_octet, left_over, plain_stands, octet_alone}

module _ (s : List ℕ) (start : ℕ) where
  pub run_starts : start ≤ length s → ((m : ℕ) → is_message_user (cut s start m) ≡ user_left 0 (cut s start m)) → Running s start start 0
  run_starts h f =
      record {
        from = omega arith;
        to = h;
        small = omega arith;
        left = λ m. let e : start - start + m ≡ m = omega arith in ap (λ (i : ℕ). is_message_user (cut s start i)) e ∙ f m;
        before = λ other e. e.from;
      }

  module _ (at size : ℕ) (r : Running s start at size) where
    -- one character further
    pub run_goes : (n w : ℕ) → Character s at n w → size + w ≤ user_name_most → Running s start (at + n) (size + w)
    run_goes n w c h =
        record {
          from = omega (arith, r.from);
          to = c.to;
          small = h;
          left = λ m.
              let e : at + n - start + m ≡ at - start + (n + m) = omega (arith, r.from) in
              ap (λ (i : ℕ). is_message_user (cut s start i)) e ∙ r.left (n + m) ∙ c.after size m;
          before = λ other e. past other e (ltb other (at + n)) (ltb at other) refl refl;
        }
      where
        past : (other : ℕ) → EndsText is_message_user s start other → (a b : Bool) → ltb other (at + n) ≡ a → ltb at other ≡ b → at + n ≤ other
        past other e false b p q = ltb-false other (at + n) p
        past other e true true p q =
            let h : other < at + n = ltb-true other (at + n) p in
            let k : at < other = ltb-true at other q in
            let m : other - start ≡ at - start + (other - at) = omega (arith, r.from) in
            let u : is_message_user (cut s start (other - start)) ≡ false =
            ap (λ (i : ℕ). is_message_user (cut s start i)) m ∙ r.left (other - at) ∙ c.inside size (other - at) (omega arith) (omega arith) in
            absurd (true_not_false (sym e.text ∙ u))
        past other e true false p q =
            let h : at ≡ other = omega (arith, ltb-false at other q, r.before other e) in
            absurd (c.some (ap (u16_at s) h ∙ e.zero))

    -- or one plain letter
    pub plain_goes : (u : ℕ) → u ≡ u16_at s at → at + 2 ≤ length s → 1 ≤ u → u ≤ 0x7F → size < user_name_most → Running s start (at + 2) (size + 1)
    plain_goes u e h a b l = run_goes 2 1 ((plain_stands s at u e h 1 a (λ q. omega arith) (octet_alone u (omega arith)) (omega arith)).stands (omega arith)) (omega arith)

    -- nothing goes on here
    pub run_stops : are_octets s ≡ true → Stops s at size → TextRun s start at
    unfolding points_from16 all flat_map
    run_stops known stops =
        record {
          octets = known;
          from = r.from;
          to = r.to;
          user =
              let e : at - start ≡ at - start + 0 = omega arith in
              ap (λ (i : ℕ). is_message_user (cut s start i)) e ∙ r.left 0 ∙ rw (add-zero size, le-leb size user_name_most r.small);
          longest = λ n h e. go n h e (ltb at (start + n)) refl;
          before = r.before;
        }
      where
        go : (n : ℕ) → start + n ≤ length s → is_message_user (cut s start n) ≡ true → (b : Bool) → ltb at (start + n) ≡ b → start + n ≤ at
        go n h e false p = ltb-false at (start + n) p
        go n h e true p =
            let k : at < start + n = ltb-true at (start + n) p in
            let m : n ≡ at - start + suc (start + n - at - 1) = omega (arith, r.from) in
            let u : is_message_user (cut s start n) ≡ false = ap (λ (i : ℕ). is_message_user (cut s start i)) m ∙ r.left (suc (start + n - at - 1)) ∙ stops (start + n - at - 1) (omega (arith, r.from)) in
            absurd (true_not_false (sym e ∙ u))

-- why nothing goes on: less than a unit is left, or the character there is one too many
pub short_stops : (s : List ℕ) (at size : ℕ) → length s < at + 2 → Stops s at size
short_stops s at size h zero k = one_octet s at size (omega arith)
short_stops s at size h (suc m) k = absurd (omega arith)

pub full_stops : (s : List ℕ) (at size n w : ℕ) → Character s at n w → user_name_most < size + w → Stops s at size
full_stops s at size n w c h m k = go (ltb (suc m) n) refl
  where
    go : (b : Bool) → ltb (suc m) n ≡ b → user_left size (cut s at (suc m)) ≡ false
    go true p = c.inside size (suc m) (omega arith) (ltb-true (suc m) n p)
    go false p =
        let e : suc m ≡ n + (suc m - n) = omega (arith, ltb-false (suc m) n p) in
        rw e (c.after size (suc m - n) ∙ left_over (size + w) (cut s (at + n) (suc m - n)) h)

-- a user that goes on to the end is the whole text
pub user-whole : (s : List ℕ) (end : ℕ) → TextRun s 0 end → eqb end (length s) ≡ is_message_user s
user-whole s end run = go (eqb end (length s)) refl
  where
    whole : is_message_user (cut s 0 (length s)) ≡ is_message_user s
    whole = ap is_message_user (take-length s)

    none : (b : Bool) → end < length s → is_message_user s ≡ b → b ≡ false
    none true h e = absurd (omega (arith, run.longest (length s) (omega arith) (whole ∙ e)))
    none false h e = refl

    go : (b : Bool) → eqb end (length s) ≡ b → b ≡ is_message_user s
    go true e =
        let q : end - 0 ≡ length s = omega (arith, eqb-true end (length s) e) in
        sym run.user ∙ ap (λ (i : ℕ). is_message_user (cut s 0 i)) q ∙ whole
    go false e =
        let h : end < length s = omega (arith, eqb-false end (length s) e, run.to) in
        sym (none (is_message_user s) h refl)

-- a user that its zero unit ends goes as far as that
pub text-ends : (s : List ℕ) (start run : ℕ) → TextRun s start run → (end : ℕ) → EndsText is_message_user s start end → end ≡ run
text-ends s start run r end e = omega (arith, r.longest (end - start) (omega (arith, e.from, e.to)) e.text, r.before end e, e.from)
