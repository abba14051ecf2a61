use mathlib.Core.Path.{◌≡◌, refl, sym, ap, ◌∙◌}
use mathlib.Core.List.{List, [], ◌∷◌}
use Prim.Native.Nat.{ℕ, ◌+◌, ◌/◌, ◌%◌, ◌<◌, ◌≤◌}
use native.Mathlib.Omega.{arith}
use lib.ListN.{length, length-set}
use Rattle.octets.specs.Buffer.{over}
use Rattle.octets.proofs.Laws.Buffer.{stored_one, stored-two, stored_three, stored_four}
use Rattle.unicode_text.specs.Utf8.{utf8_of}
use Rattle.unicode_text.proofs.Laws.Utf8.{of_one, of_two, of_three, of_four}
use Rattle.transcode.proofs.to8.put_point.Goals as goal

-- the code point's octets on each way
one : (p : ℕ) → p < 0x80 → utf8_of p ≡ p ∷ []
one p h = of_one p h

two : (p : ℕ) → 0x80 ≤ p → p < 0x800 → utf8_of p ≡ (0xC0 + p / 64) ∷ (0x80 + p % 64) ∷ []
two p h k = of_two p _ _ h k refl refl

three : (p : ℕ) → 0x800 ≤ p → p < 0x10000 → utf8_of p ≡ (0xE0 + p / 4096) ∷ (0x80 + p / 64 % 64) ∷ (0x80 + p % 64) ∷ []
three p h k = of_three p _ _ _ h k refl refl refl

four : (p : ℕ) → 0x10000 ≤ p → utf8_of p ≡ (0xF0 + p / 262144) ∷ (0x80 + p / 4096 % 64) ∷ (0x80 + p / 64 % 64) ∷ (0x80 + p % 64) ∷ []
four p h = of_four p _ _ _ _ h refl refl refl refl

pub bounds-out-0 : goal.bounds-out-0
bounds-out-0 c = let e = ap length (one c.args.point c.if-point-lt128.true) in omega arith

pub returns-then-point-lt128 : goal.returns-then-point-lt128
returns-then-point-lt128 c =
    let d = c.args.out.now in
    let e = ap length (one c.args.point c.if-point-lt128.true) in
    record {
      value = sym e;
      out_after = stored_one d _ (omega arith) ∙ ap (λ (x : List ℕ). over x d) (sym (one c.args.point c.if-point-lt128.true));
    }

pub bounds-out-0-then-point-lt2048 : goal.bounds-out-0-then-point-lt2048
bounds-out-0-then-point-lt2048 c = let e = ap length (two c.args.point c.if-point-lt128.false c.if-point-lt2048.true) in omega arith

pub bounds-out-1 : goal.bounds-out-1
bounds-out-1 c = let e = ap length (two c.args.point c.if-point-lt128.false c.if-point-lt2048.true) in simp length-set (omega arith)

pub returns-then-point-lt2048 : goal.returns-then-point-lt2048
returns-then-point-lt2048 c =
    let d = c.args.out.now in
    let e = ap length (two c.args.point c.if-point-lt128.false c.if-point-lt2048.true) in
    record {
      value = sym e;
      out_after = stored-two d _ _ (omega arith) ∙ ap (λ (x : List ℕ). over x d) (sym (two c.args.point c.if-point-lt128.false c.if-point-lt2048.true));
    }

pub bounds-out-0-then-point-lt65536 : goal.bounds-out-0-then-point-lt65536
bounds-out-0-then-point-lt65536 c = let e = ap length (three c.args.point c.if-point-lt2048.false c.if-point-lt65536.true) in omega arith

pub bounds-out-1-then-point-lt65536 : goal.bounds-out-1-then-point-lt65536
bounds-out-1-then-point-lt65536 c = let e = ap length (three c.args.point c.if-point-lt2048.false c.if-point-lt65536.true) in simp length-set (omega arith)

pub bounds-out-2 : goal.bounds-out-2
bounds-out-2 c = let e = ap length (three c.args.point c.if-point-lt2048.false c.if-point-lt65536.true) in simp length-set (omega arith)

pub returns-then-point-lt65536 : goal.returns-then-point-lt65536
returns-then-point-lt65536 c =
    let d = c.args.out.now in
    let e = ap length (three c.args.point c.if-point-lt2048.false c.if-point-lt65536.true) in
    record {
      value = sym e;
      out_after = stored_three d _ _ _ (omega arith) ∙ ap (λ (x : List ℕ). over x d) (sym (three c.args.point c.if-point-lt2048.false c.if-point-lt65536.true));
    }

pub bounds-out-0-2 : goal.bounds-out-0-2
bounds-out-0-2 c = let e = ap length (four c.args.point c.if-point-lt65536.false) in omega arith

pub bounds-out-1-2 : goal.bounds-out-1-2
bounds-out-1-2 c = let e = ap length (four c.args.point c.if-point-lt65536.false) in simp length-set (omega arith)

pub bounds-out-2-2 : goal.bounds-out-2-2
bounds-out-2-2 c = let e = ap length (four c.args.point c.if-point-lt65536.false) in simp length-set (omega arith)

pub bounds-out-3 : goal.bounds-out-3
bounds-out-3 c = let e = ap length (four c.args.point c.if-point-lt65536.false) in simp length-set (omega arith)

pub returns : goal.returns
returns c =
    let d = c.args.out.now in
    let e = ap length (four c.args.point c.if-point-lt65536.false) in
    record {
      value = sym e;
      out_after = stored_four d _ _ _ _ (omega arith) ∙ ap (λ (x : List ℕ). over x d) (sym (four c.args.point c.if-point-lt65536.false));
    }
