-- Laws of tests, stretches and pieces of a list.
use Rattle.std.proofs.Common.{Option, None, Some, option_map, is_some}
use mathlib.Core.Path.{◌≡◌, refl, sym, ap, ◌∙◌, subst, ap₂}
use mathlib.Core.Bool.{Bool, true, false, ◌&&◌, ◌||◌, cond, not, and-true, and-false, and_assoc}
use mathlib.Core.List.{List, [], ◌∷◌, ◌++◌, map, flat_map}
use Prim.Native.Nat.{ℕ, zero, suc, ◌+◌, ◌-◌, ◌*◌, ◌≤◌, ◌<◌}
use native.Mathlib.Nat.{mul-zero, mul-suc, sub-zero, zero-sub, suc-sub-suc, add_comm, not-suc-le-zero, le_of_suc-le-suc, suc-mul}
use native.Mathlib.Omega.{arith}
use native.Mathlib.Numerals.{add-one}
use lib.ListN.{length, get_or, take, drop, length-take, length-drop, take-append-drop, drop_of_length-le}
use lib.Seq.{take-suc, drop-cons, get_or-drop, take-take, drop-drop, take-nil, take_all, take-append_seam, drop-append_seam, take-append-le, drop-append-le, length-take-le}
use Rattle.std.specs.List.{list_all, list_any}
use Rattle.octets.specs.Lists.{all, any, first, first_or, keep, keep_if, cut, pieces, unique}

module _ {A : Type 0} where
  module _ (p : A → Bool) (s : List A) (i : ℕ) (d : A) (h : i < length s) where
    all-step : all p (drop i s) ≡ (p (get_or s i d) && all p (drop (i + 1) s))
    unfolding all
    all-step = rw (add-one, drop-cons s i d)

    -- what is left at i: the element there fails the test
    pub all_fails : p (get_or s i d) ≡ false → false ≡ all p (drop i s)
    all_fails e = sym (all-step ∙ ap (λ b. b && all p (drop (i + 1) s)) e)

    -- it passes, and what is left after it decides
    pub all-next : p (get_or s i d) ≡ true → all p (drop (i + 1) s) ≡ all p (drop i s)
    all-next e = sym (all-step ∙ ap (λ b. b && all p (drop (i + 1) s)) e)

  -- nothing is left
  pub all_end : (p : A → Bool) (s : List A) (i : ℕ) → length s ≤ i → true ≡ all p (drop i s)
  unfolding all
  all_end p s i h = rw (drop_of_length-le s)

  -- a stretch by its first element
  pub cut-cons : (s : List A) (at n : ℕ) (d : A) → at < length s → cut s at (suc n) ≡ get_or s at d ∷ cut s (at + 1) n
  cut-cons s at n d h = rw (add-one, drop-cons s at d)

  drop-take : (m n : ℕ) (s : List A) → drop m (take n s) ≡ take (n - m) (drop m s)
  drop-take zero n s = rw (sub-zero n)
  drop-take (suc m) zero s = rw (zero-sub (suc m))
  drop-take (suc m) (suc n) [] = sym (take-nil (suc n - suc m))
  drop-take (suc m) (suc n) (x ∷ s) = drop-take m n s ∙ ap (λ k. take k (drop m s)) (sym (suc-sub-suc n m))

  pub cut-length : (s : List A) (at n : ℕ) → at + n ≤ length s → length (cut s at n) ≡ n
  cut-length s at n h = simp (length-take, length-drop) (omega arith)

  -- a stretch of a stretch
  pub cut-cut : (s : List A) (at n from m : ℕ) → from + m ≤ n → cut (cut s at n) from m ≡ cut s (at + from) m
  cut-cut s at n from m h =
      ap (take m) (drop-take from n (drop at s)) ∙ take-take m (n - from) (drop from (drop at s)) (omega arith) ∙ ap (take m) (drop-drop from at s)

  -- past the end there is nothing, and up to the end everything that is left
  pub cut-past : (s : List A) (at n : ℕ) → length s ≤ at → cut s at n ≡ []
  cut-past s at n h = rw (drop_of_length-le s) (take-nil n)

  pub cut_rest : (s : List A) (at n : ℕ) → length s - at ≤ n → cut s at n ≡ drop at s
  cut_rest s at n h = take_all n (drop at s) (simp length-drop h)

  -- pieces by their number: each is a stretch
  pub length-pieces : (n w : ℕ) (s : List A) → length (pieces n w s) ≡ n
  unfolding pieces
  length-pieces zero w s = refl
  length-pieces (suc n) w s = ap suc (length-pieces n w (drop w s))

  pub get_d_pieces : (n w : ℕ) (s : List A) (i : ℕ) → i < n → get_or (pieces n w s) i [] ≡ cut s (w * i) w
  unfolding pieces
  get_d_pieces zero w s i h = absurd (not-suc-le-zero h)
  get_d_pieces (suc n) w s zero h = rw (mul-zero w)
  get_d_pieces (suc n) w s (suc i) h =
      get_d_pieces n w (drop w s) i (le_of_suc-le-suc h) ∙ ap (take w) (drop-drop (w * i) w s ∙ ap (λ k. drop k s) (add_comm w (w * i) ∙ sym (mul-suc w i)))

  pub keep_append : (p : A → Bool) (s t : List A) → keep p (s ++ t) ≡ keep p s ++ keep p t
  unfolding keep
  keep_append p [] t = refl
  keep_append p (x ∷ s) t = go (p x) (keep_append p s t)
    where
      go : (b : Bool) → keep p (s ++ t) ≡ keep p s ++ keep p t → keep_if b x (keep p (s ++ t)) ≡ keep_if b x (keep p s) ++ keep p t
      go true e = ap (λ (l : List A). x ∷ l) e
      go false e = e

  abbrev pub or_else : Option A → Option A → Option A
  or_else None o = o
  or_else (Some x) o = Some x

  pub first-append : (p : A → Bool) (s t : List A) → first p (s ++ t) ≡ or_else (first p s) (first p t)
  unfolding first
  first-append p [] t = refl
  first-append p (x ∷ s) t = go (p x) (first-append p s t)
    where
      go : (b : Bool) → first p (s ++ t) ≡ or_else (first p s) (first p t) → first_or b x (first p (s ++ t)) ≡ or_else (first_or b x (first p s)) (first p t)
      go true e = refl
      go false e = e

-- tests of pieces: over what is left at a piece
module _ {A : Type 0} where
  module _ (p : List A → Bool) (n w : ℕ) (s : List A) (i : ℕ) where
    module _ (h : i < n) where
      pub all_piece_fails : p (cut s (w * i) w) ≡ false → false ≡ all p (drop i (pieces n w s))
      all_piece_fails e =
          let k : i < length (pieces n w s) = rw length-pieces h in
          all_fails p (pieces n w s) i [] k (ap p (get_d_pieces n w s i h) ∙ e)

      pub all_piece_next : p (cut s (w * i) w) ≡ true → all p (drop (i + 1) (pieces n w s)) ≡ all p (drop i (pieces n w s))
      all_piece_next e =
          let k : i < length (pieces n w s) = rw length-pieces h in
          all-next p (pieces n w s) i [] k (ap p (get_d_pieces n w s i h) ∙ e)

    pub all-pieces-end : n ≤ i → true ≡ all p (drop i (pieces n w s))
    all-pieces-end h =
        let k : length (pieces n w s) ≤ i = rw length-pieces h in
        all_end p (pieces n w s) i k

-- Laws of the tests and searches: what holds of each element holds of the one found, kept or mapped.

pub true_not_false : true ≡ false → ⊥
true_not_false e = let z : ◌≡◌ {A = ℕ} 0 1 = cc in omega arith

pub none_not_some : {A : Type 0} (x : A) → None ≡ Some x → ⊥
none_not_some x e = let z : ◌≡◌ {A = ℕ} 0 1 = cc in omega arith

-- what holds in either case of a test holds of what it picks
pub cond_has : {A : Type 0} (P : A → Type 0) (b : Bool) (x y : A) → (b ≡ true → P x) → (b ≡ false → P y) → P (cond b x y)
cond_has P true x y f g = f refl
cond_has P false x y f g = g refl

-- ---- tests joined

pub both_left : (a b : Bool) → a && b ≡ true → a ≡ true
both_left true b e = refl
both_left false b e = e

pub both_right : (a b : Bool) → a && b ≡ true → b ≡ true
both_right true b e = e
both_right false b e = absurd (true_not_false (sym e))

pub neither_left : (a b : Bool) → a || b ≡ false → a ≡ false
neither_left true b e = e
neither_left false b e = refl

pub neither_right : (a b : Bool) → a || b ≡ false → b ≡ false
neither_right true b e = absurd (true_not_false e)
neither_right false b e = e

pub other_right : (a b : Bool) → a || b ≡ true → a ≡ false → b ≡ true
other_right true b e n = absurd (true_not_false n)
other_right false b e n = e

-- ---- each element

module _ {A : Type 0} where
  abbrev pub Every : (A → Type 0) → List A → Type 0
  Every P [] = Unit {0}
  Every P (x ∷ xs) = P x × Every P xs

  pub every_all : (p : A → Bool) (P : A → Type 0) → ((x : A) → p x ≡ true → P x) → (xs : List A) → all p xs ≡ true → Every P xs
  unfolding all
  every_all p P f [] e = tt
  every_all p P f (x ∷ xs) e = (f x (both_left (p x) (all p xs) e), every_all p P f xs (both_right (p x) (all p xs) e))

  pub all_every : (p : A → Bool) (xs : List A) → Every (λ x. p x ≡ true) xs → all p xs ≡ true
  unfolding all
  all_every p [] h = refl
  all_every p (x ∷ xs) h = rw (h.0, all_every p xs h.1)

  pub every_none : (p : A → Bool) (P : A → Type 0) → ((x : A) → p x ≡ false → P x) → (xs : List A) → any p xs ≡ false → Every P xs
  unfolding any
  every_none p P f [] e = tt
  every_none p P f (x ∷ xs) e = (f x (neither_left (p x) (any p xs) e), every_none p P f xs (neither_right (p x) (any p xs) e))

  pub every_weaken : (P Q : A → Type 0) → ((x : A) → P x → Q x) → (xs : List A) → Every P xs → Every Q xs
  every_weaken P Q f [] h = tt
  every_weaken P Q f (x ∷ xs) h = (f x h.0, every_weaken P Q f xs h.1)

  pub every_append : (P : A → Type 0) (xs ys : List A) → Every P xs → Every P ys → Every P (xs ++ ys)
  every_append P [] ys h k = k
  every_append P (x ∷ xs) ys h k = (h.0, every_append P xs ys h.1 k)

  pub every_at : (P : A → Type 0) (xs : List A) (k : ℕ) (d : A) → Every P xs → k < length xs → P (get_or xs k d)
  every_at P [] k d e h = absurd (omega arith)
  every_at P (x ∷ xs) zero d e h = e.0
  every_at P (x ∷ xs) (suc k) d e h = every_at P xs k d e.1 (omega arith)

  pub every_take : (P : A → Type 0) (n : ℕ) (xs : List A) → Every P xs → Every P (take n xs)
  every_take P zero xs h = tt
  every_take P (suc n) [] h = tt
  every_take P (suc n) (x ∷ xs) h = (h.0, every_take P n xs h.1)

  -- what is kept passed the test
  pub every_keep : (p : A → Bool) (P Q : A → Type 0) → ((x : A) → p x ≡ true → P x → Q x) → (xs : List A) → Every P xs → Every Q (keep p xs)
  unfolding keep
  every_keep p P Q f [] h = tt
  every_keep p P Q f (x ∷ xs) h = go (p x) refl (every_keep p P Q f xs h.1)
    where
      go : (b : Bool) → p x ≡ b → Every Q (keep p xs) → Every Q (keep_if b x (keep p xs))
      go true e r = (f x e h.0, r)
      go false e r = r

  -- what is found is one of the list, and passed the test
  pub found : (p : A → Bool) (P : A → Type 0) (xs : List A) (y : A) → Every P xs → first p xs ≡ Some y → P y × (p y ≡ true)
  unfolding first
  found p P [] y h e = absurd (none_not_some y e)
  found p P (x ∷ xs) y h e = go (p x) refl (λ q. found p P xs y h.1 q)
    where
      go : (b : Bool) → p x ≡ b → (first p xs ≡ Some y → P y × (p y ≡ true)) → P y × (p y ≡ true)
      go true q f =
          let s : Some x ≡ Some y = rw q at e in
          let k : x ≡ y = cc in
          subst (λ (z : A). P z × (p z ≡ true)) k (h.0, q)
      go false q f = f (rw q at e)

-- where nothing is found, nothing passes
pub not_found : {A : Type 0} (p : A → Bool) (xs : List A) → first p xs ≡ None → Every (λ x. p x ≡ false) xs
unfolding first
not_found p [] e = tt
not_found p (x ∷ xs) e = go (p x) refl (λ q. not_found p xs q)
  where
    go : (b : Bool) → p x ≡ b → (first p xs ≡ None → Every (λ y. p y ≡ false) xs) → Every (λ y. p y ≡ false) (x ∷ xs)
    go true q f = let s : Some x ≡ None = rw q at e in absurd (none_not_some x (sym s))
    go false q f = (q, f (rw q at e))

pub none_any : {A : Type 0} (p : A → Bool) (xs : List A) → Every (λ x. p x ≡ false) xs → any p xs ≡ false
unfolding any
none_any p [] h = refl
none_any p (x ∷ xs) h = rw (h.0, none_any p xs h.1)

-- some element passes exactly where not each passes the opposite
pub any_not_all : {A : Type 0} (p q : A → Bool) (xs : List A) → Every (λ x. p x ≡ not (q x)) xs → any p xs ≡ not (all q xs)
unfolding any all
any_not_all p q [] h = refl
any_not_all p q (x ∷ xs) h = rw (h.0, any_not_all p q xs h.1) (both_not (q x) (all q xs))
  where
    both_not : (a b : Bool) → (not a || not b) ≡ not (a && b)
    both_not true b = refl
    both_not false b = refl

-- no two alike, one list after the other: each by itself, and none of the one like any of the other
module _ {A : Type 0} (alike : A → A → Bool) where
  abbrev pub Unique : List A → Type 0
  Unique [] = Unit {0}
  Unique (x ∷ xs) = Every (λ y. alike x y ≡ false) xs × Unique xs

  pub unique-append : (xs ys : List A) → Unique xs → Unique ys → Every (λ y. Every (λ x. alike x y ≡ false) xs) ys → Unique (xs ++ ys)
  unique-append [] ys h k c = k
  unique-append (x ∷ xs) ys h k c = (
    every_append (λ y. alike x y ≡ false) xs ys h.0 (every_weaken (λ y. Every (λ z. alike z y ≡ false) (x ∷ xs)) (λ y. alike x y ≡ false) (λ y q. q.0) ys c),
    unique-append xs ys h.1 k (every_weaken (λ y. Every (λ z. alike z y ≡ false) (x ∷ xs)) (λ y. Every (λ z. alike z y ≡ false) xs) (λ y q. q.1) ys c),
  )

  pub unique_tested : (xs : List A) → Unique xs → unique alike xs ≡ true
  unfolding unique
  unique_tested [] h = refl
  unique_tested (x ∷ xs) h = rw (none_any (alike x) xs h.0, unique_tested xs h.1)

pub every_map : {A B : Type 0} (f : B → A) (P : B → Type 0) (Q : A → Type 0) → ((x : B) → P x → Q (f x)) → (xs : List B) → Every P xs → Every Q (map f xs)
every_map f P Q g [] h = tt
every_map f P Q g (x ∷ xs) h = (g x h.0, every_map f P Q g xs h.1)

pub every_flat : {A B : Type 0} (f : B → List A) (P : B → Type 0) (Q : A → Type 0) → ((x : B) → P x → Every Q (f x)) → (xs : List B) → Every P xs → Every Q (flat_map f xs)
unfolding flat_map
every_flat f P Q g [] h = tt
every_flat f P Q g (x ∷ xs) h = every_append Q (f x) (flat_map f xs) (g x h.0) (every_flat f P Q g xs h.1)

-- ---- stretches

module _ {A : Type 0} where
  -- what stands after a front
  pub cut-after : (p x q : List A) → cut (p ++ (x ++ q)) (length p) (length x) ≡ x
  cut-after p x q = rw (drop-append_seam p (x ++ q), take-append_seam x q)

  -- what is appended changes no stretch that was all there
  pub cut-longer : (s t : List A) (at n : ℕ) → at + n ≤ length s → cut (s ++ t) at n ≡ cut s at n
  cut-longer s t at n h =
      let a : at ≤ length s = omega arith in
      let b : n ≤ length (drop at s) = simp length-drop (omega arith) in
      rw (drop-append-le at s t, take-append-le n (drop at s) t)

  -- every piece has its width where there is enough
  pub pieces_wide : (n w : ℕ) (s : List A) → n * w ≤ length s → Every (λ x. length x ≡ w) (pieces n w s)
  unfolding pieces
  pieces_wide zero w s h = tt
  pieces_wide (suc n) w s h =
      let a : w + n * w ≤ length s = omega (arith, suc-mul n w) in
      let b : w ≤ length s = omega arith in
      let c : n * w ≤ length (drop w s) = simp length-drop (omega arith) in
      (length-take-le w s b, pieces_wide n w (drop w s) c)

  -- something is found where the test holds of some element
  pub first_any : (p : A → Bool) (xs : List A) → is_some (first p xs) ≡ any p xs
  unfolding first any
  first_any p [] = refl
  first_any p (x ∷ xs) = found (p x) (first_any p xs)
    where
      found : (b : Bool) → is_some (first p xs) ≡ any p xs → is_some (first_or b x (first p xs)) ≡ (b || any p xs)
      found true e = refl
      found false e = e

  -- the test holds of what is found
  pub first_holds : (p : A → Bool) (xs : List A) (y : A) → first p xs ≡ Some y → p y ≡ true
  unfolding first
  first_holds p [] y e = let z : ◌≡◌ {A = ℕ} 0 1 = cc in absurd (omega arith)
  first_holds p (x ∷ xs) y e = found (p x) refl e (first_holds p xs y)
    where
      found : (b : Bool) → p x ≡ b → first_or b x (first p xs) ≡ Some y → (first p xs ≡ Some y → p y ≡ true) → p y ≡ true
      found true q f rest = let h : x ≡ y = cc in ap p (sym h) ∙ q
      found false q f rest = rest f

  -- tests that agree on each element
  pub any_ext : (p q : A → Bool) (xs : List A) → ((x : A) → p x ≡ q x) → any p xs ≡ any q xs
  unfolding any
  any_ext p q [] e = refl
  any_ext p q (x ∷ xs) e = rw (e x, any_ext p q xs e)

  pub any_never : (xs : List A) → any (λ x. false) xs ≡ false
  unfolding any
  any_never [] = refl
  any_never (x ∷ xs) = any_never xs

  -- a test of each element, at one index
  pub any_false : (p : A → Bool) (xs : List A) (i : ℕ) (d : A) → i < length xs → any p xs ≡ false → p (get_or xs i d) ≡ false
  unfolding any
  any_false p [] i d h e = absurd (not-suc-le-zero h)
  any_false p (x ∷ xs) zero d h e = here (p x) e
    where
      here : (b : Bool) → (b || any p xs) ≡ false → b ≡ false
      here true q = q
      here false q = refl
  any_false p (x ∷ xs) (suc i) d h e = any_false p xs i d (omega arith) (there (p x) e)
    where
      there : (b : Bool) → (b || any p xs) ≡ false → any p xs ≡ false
      there true q = let z : ◌≡◌ {A = ℕ} 0 1 = cc in absurd (omega arith)
      there false q = q

-- a search in a list made of another, and in what a test keeps of it
module _ {A B : Type 0} (f : A → B) (p : B → Bool) where
  pub first-map : (s : List A) → first p (map f s) ≡ option_map f (first (λ x. p (f x)) s)
  unfolding first
  first-map [] = refl
  first-map (x ∷ s) = go (p (f x)) (first-map s)
    where
      go : (b : Bool) → first p (map f s) ≡ option_map f (first (λ y. p (f y)) s) → first_or b (f x) (first p (map f s)) ≡ option_map f (first_or b x (first (λ y. p (f y)) s))
      go true e = refl
      go false e = e

module _ {A : Type 0} (p q : A → Bool) where
  pub first-keep : (s : List A) → first p (keep q s) ≡ first (λ x. q x && p x) s
  unfolding first keep
  first-keep [] = refl
  first-keep (x ∷ s) = go (q x) (first-keep s)
    where
      go : (b : Bool) → first p (keep q s) ≡ first (λ y. q y && p y) s → first p (keep_if b x (keep q s)) ≡ first_or (b && p x) x (first (λ y. q y && p y) s)
      go true e = ap (first_or (p x) x) e
      go false e = e

module _ {A : Type 0} where
  -- pieces of a stretch that holds them all
  pub pieces-take : (n w m : ℕ) (s : List A) → n * w ≤ m → pieces n w (take m s) ≡ pieces n w s
  unfolding pieces
  pieces-take zero w m s h = refl
  pieces-take (suc n) w m s h =
      let k : w + n * w ≤ m = omega (arith, suc-mul n w) in
      ap₂ (λ (x : List A) (xs : List (List A)). x ∷ xs) (take-take w m s (omega arith)) (ap (pieces n w) (drop-take w m s) ∙ pieces-take n w (m - w) (drop w s) (omega arith))

  module _ (p : A → Bool) (s : List A) (i : ℕ) (d : A) (h : i < length s) where
    any_step : any p (drop i s) ≡ (p (get_or s i d) || any p (drop (i + 1) s))
    unfolding any
    any_step = rw (add-one, drop-cons s i d)

    -- what is left at i: the element there passes the test
    pub any-holds : p (get_or s i d) ≡ true → true ≡ any p (drop i s)
    any-holds e = sym (any_step ∙ ap (λ b. b || any p (drop (i + 1) s)) e)

    -- it fails, and what is left after it decides
    pub any_next : p (get_or s i d) ≡ false → any p (drop (i + 1) s) ≡ any p (drop i s)
    any_next e = sym (any_step ∙ ap (λ b. b || any p (drop (i + 1) s)) e)

  pub any-end : (p : A → Bool) (s : List A) (i : ℕ) → length s ≤ i → false ≡ any p (drop i s)
  unfolding any
  any-end p s i h = rw (drop_of_length-le s)

  module _ (p : A → Bool) (s : List A) (i : ℕ) (d : A) (h : i < length s) where
    first_step : first p (drop i s) ≡ first_or (p (get_or s i d)) (get_or s i d) (first p (drop (i + 1) s))
    unfolding first
    first_step = rw (add-one, drop-cons s i d)

    -- what is left at i: the element there is the first that passes the test
    pub first_here : p (get_or s i d) ≡ true → Some (get_or s i d) ≡ first p (drop i s)
    first_here e = sym (first_step ∙ ap (λ b. first_or b (get_or s i d) (first p (drop (i + 1) s))) e)

    -- it fails, and what is left after it decides
    pub first_next : p (get_or s i d) ≡ false → first p (drop (i + 1) s) ≡ first p (drop i s)
    first_next e = sym (first_step ∙ ap (λ b. first_or b (get_or s i d) (first p (drop (i + 1) s))) e)

  pub first-end : (p : A → Bool) (s : List A) (i : ℕ) → length s ≤ i → None ≡ first p (drop i s)
  unfolding first
  first-end p s i h = rw (drop_of_length-le s)

  module _ (alike : A → A → Bool) (s : List A) (i : ℕ) (d : A) (h : i < length s) where
    unique-step : unique alike (drop i s) ≡ (not (any (alike (get_or s i d)) (drop (i + 1) s)) && unique alike (drop (i + 1) s))
    unfolding unique
    unique-step = rw (add-one, drop-cons s i d)

    -- what is left at i: one after the element there is like it
    pub unique_fails : any (alike (get_or s i d)) (drop (i + 1) s) ≡ true → false ≡ unique alike (drop i s)
    unique_fails e = sym (unique-step ∙ ap (λ b. not b && unique alike (drop (i + 1) s)) e)

    -- none is, and what is left after it decides
    pub unique-next : any (alike (get_or s i d)) (drop (i + 1) s) ≡ false → unique alike (drop (i + 1) s) ≡ unique alike (drop i s)
    unique-next e = sym (unique-step ∙ ap (λ b. not b && unique alike (drop (i + 1) s)) e)

  pub unique-end : (alike : A → A → Bool) (s : List A) (i : ℕ) → length s ≤ i → true ≡ unique alike (drop i s)
  unfolding unique
  unique-end alike s i h = rw (drop_of_length-le s)

  -- two alike in what is left are two alike
  pub unique_part : (alike : A → A → Bool) (s : List A) (i : ℕ) → false ≡ unique alike (drop i s) → false ≡ unique alike s
  unfolding unique
  unique_part alike s zero e = e
  unique_part alike [] (suc i) e = e
  unique_part alike (x ∷ s) (suc i) e = sym (ap (λ b. not (any (alike x) s) && b) (sym (unique_part alike s i e)) ∙ and-false (not (any (alike x) s)))

  -- two tests of each element, or of some, are one
  pub all_both : (p q : A → Bool) (s : List A) → (all p s && all q s) ≡ all (λ x. p x && q x) s
  unfolding all
  all_both p q [] = refl
  all_both p q (x ∷ s) = swap (p x) (all p s) (q x) (all q s) ∙ ap (λ b. p x && q x && b) (all_both p q s)
    where
      swap : (a b c e : Bool) → ((a && b) && (c && e)) ≡ ((a && c) && (b && e))
      swap true true c e = refl
      swap true false true e = refl
      swap true false false e = refl
      swap false b c e = refl

  pub any_either : (p q : A → Bool) (s : List A) → (any p s || any q s) ≡ any (λ x. p x || q x) s
  unfolding any
  any_either p q [] = refl
  any_either p q (x ∷ s) = swap (p x) (any p s) (q x) (any q s) ∙ ap (λ b. p x || q x || b) (any_either p q s)
    where
      swap : (a b c e : Bool) → ((a || b) || (c || e)) ≡ ((a || c) || (b || e))
      swap true b c e = refl
      swap false true true e = refl
      swap false true false e = refl
      swap false false c e = refl

  -- two ways of being alike are one
  pub unique_either : (a b : A → A → Bool) (s : List A) → (unique a s && unique b s) ≡ unique (λ x y. a x y || b x y) s
  unfolding unique
  unique_either a b [] = refl
  unique_either a b (x ∷ s) =
      swap (any (a x) s) (unique a s) (any (b x) s) (unique b s)
      ∙ ap₂ (λ t u. not t && u) (any_either (a x) (b x) s) (unique_either a b s)
    where
      swap : (t u v w : Bool) → ((not t && u) && (not v && w)) ≡ (not (t || v) && (u && w))
      swap true u v w = refl
      swap false true v w = refl
      swap false false true w = refl
      swap false false false w = refl

-- tests of elements that are made from others
module _ {A B : Type 0} (f : A → B) where
  pub all_map : (p : B → Bool) (s : List A) → all p (map f s) ≡ all (λ x. p (f x)) s
  unfolding all
  all_map p [] = refl
  all_map p (x ∷ s) = ap (λ b. p (f x) && b) (all_map p s)

  pub any-map : (p : B → Bool) (s : List A) → any p (map f s) ≡ any (λ x. p (f x)) s
  unfolding any
  any-map p [] = refl
  any-map p (x ∷ s) = ap (λ b. p (f x) || b) (any-map p s)

  pub unique-map : (alike : B → B → Bool) (s : List A) → unique alike (map f s) ≡ unique (λ x y. alike (f x) (f y)) s
  unfolding unique
  unique-map alike [] = refl
  unique-map alike (x ∷ s) = ap₂ (λ t u. not t && u) (any-map (alike (f x)) s) (unique-map alike s)

-- a test of each element of lists made of others
module _ {A : Type 0} (p : A → Bool) where
  pub all_append : (s t : List A) → all p (s ++ t) ≡ (all p s && all p t)
  unfolding all
  all_append [] t = refl
  all_append (x ∷ s) t = ap (λ b. p x && b) (all_append s t) ∙ sym (and_assoc (p x) (all p s) (all p t))

  -- what is left: n elements, and what is left after them
  pub all-parts : (s : List A) (at n : ℕ) → all p (drop at s) ≡ (all p (cut s at n) && all p (drop (at + n) s))
  all-parts s at n =
      ap (all p) (sym (take-append-drop n (drop at s)))
      ∙ all_append (cut s at n) (drop n (drop at s))
      ∙ ap (λ (l : List A). all p (cut s at n) && all p l) (drop-drop n at s)

  -- a stretch by its last element
  pub all-last : (s : List A) (at n : ℕ) (d : A) → at + n < length s → all p (cut s at (suc n)) ≡ (all p (cut s at n) && p (get_or s (at + n) d))
  unfolding all
  all-last s at n d h =
      let k : n < length (drop at s) = simp length-drop (omega arith) in
      ap (all p) (take-suc (drop at s) n d k)
      ∙ all_append (cut s at n) (get_or (drop at s) n d ∷ [])
      ∙ ap (λ b. all p (cut s at n) && b) (and-true (p (get_or (drop at s) n d)) ∙ ap p (get_or-drop at s n d))

  -- what is kept passes where each element passes or is not kept
  pub all_keep : (q : A → Bool) (s : List A) → all p (keep q s) ≡ all (λ x. not (q x) || p x) s
  unfolding all keep
  all_keep q [] = refl
  all_keep q (x ∷ s) = go (q x) (all_keep q s)
    where
      go : (b : Bool) → all p (keep q s) ≡ all (λ y. not (q y) || p y) s → all p (keep_if b x (keep q s)) ≡ ((not b || p x) && all (λ y. not (q y) || p y) s)
      go true e = ap (λ t. p x && t) e
      go false e = e

  pub all_flat : {B : Type 0} (f : B → List A) (s : List B) → all p (flat_map f s) ≡ all (λ x. all p (f x)) s
  unfolding all flat_map
  all_flat f [] = refl
  all_flat f (x ∷ s) = all_append (f x) (flat_map f s) ∙ ap (λ b. all p (f x) && b) (all_flat f s)

-- std's tests of lists are these
pub list_all_is : {A : Type 0} (p : A → Bool) (s : List A) → list_all p s ≡ all p s
unfolding all
list_all_is p [] = refl
list_all_is p (x ∷ s) = ap (λ (b : Bool). p x && b) (list_all_is p s)

pub not_list_any : {A : Type 0} (p : A → Bool) (s : List A) → not (list_any p s) ≡ all (λ x. not (p x)) s
unfolding all
not_list_any p [] = refl
not_list_any p (x ∷ s) = go (p x) (not_list_any p s)
  where
    go : (b : Bool) → not (list_any p s) ≡ all (λ y. not (p y)) s → not (b || list_any p s) ≡ (not b && all (λ y. not (p y)) s)
    go true e = refl
    go false e = e
