-- Record numbers written over a lent list: as many as it has room for, and its other entries stay. Assumes nothing.
use Rattle.std.specs.Prelude.{◌≡◌, refl, List, [], ◌∷◌, ◌++◌, map, ℕ, suc, ◌-◌, ◌≤◌, ◌<◌, min, ℤ, pos, length, take, drop, set}
use Rattle.std.proofs.Common.{sym, ap, ap₂, ◌∙◌, append-nil, arith, length-append, length-take, length-drop, drop_of_length-le, take_all}
use Rattle.std.proofs.lemmas.List.{length-map}
use Rattle.geometry.specs.Cases.{lt_cases}

-- record numbers as words
abbrev pub words : List ℕ → List ℤ
words w = map pos w

-- as much of w as `old` has room for, then the rest of `old`
unfoldable pub over : List ℤ → List ℤ → List ℤ
over [] old = old
over (x ∷ w) [] = []
over (x ∷ w) (o ∷ old) = x ∷ over w old

-- a list with `Is` is written over `old`, as much of it as there is room for, and n is its length
pub record Writes (Is : List ℕ → Type 0) (old new : List ℤ) (n : ℕ) : Type 0 where
  pub list : List ℕ
  pub is : Is list
  pub count : n ≡ length list
  pub content : new ≡ over (words list) old

-- n is the length of a list with `Is`
pub record CountOf (Is : List ℕ → Type 0) (n : ℕ) : Type 0 where
  pub list : List ℕ
  pub is : Is list
  pub count : n ≡ length list

pub over_none : (old : List ℤ) → over [] old ≡ old
unfolding over
over_none old = refl

pub over_length : (w old : List ℤ) → length (over w old) ≡ length old
unfolding over
over_length [] old = refl
over_length (x ∷ w) [] = refl
over_length (x ∷ w) (o ∷ old) = ap suc (over_length w old)

-- where all of it fits
pub over_whole : (w old : List ℤ) → length w ≤ length old → over w old ≡ w ++ drop (length w) old
unfolding over
over_whole [] old h = refl
over_whole (x ∷ w) [] h = absurd (omega arith)
over_whole (x ∷ w) (o ∷ old) h = ap (λ l. x ∷ l) (over_whole w old (omega arith))

-- writing a and then b
over_append : (a b old : List ℤ) → over (a ++ b) old ≡ take (length a) (over a old) ++ over b (drop (length a) (over a old))
unfolding over
over_append [] b old = refl
over_append (x ∷ a) [] [] = refl
over_append (x ∷ a) (y ∷ b) [] = refl
over_append (x ∷ a) b (o ∷ old) = ap (λ (l : List ℤ). x ∷ l) (over_append a b old)

-- the first entry is stored, or there is no room for it
pub over_first : (x : ℤ) (old : List ℤ) → 0 < length old → over (x ∷ []) old ≡ set old 0 x
unfolding over
over_first x [] h = absurd (omega arith)
over_first x (o ∷ old) h = refl

pub over_full : (w old : List ℤ) → length old ≡ 0 → over w old ≡ old
unfolding over
over_full [] old h = refl
over_full (x ∷ w) [] h = refl
over_full (x ∷ w) (o ∷ old) h = absurd (omega arith)

-- ---- a part of the list, from its middle on, is lent and comes back

take_least : (n at : ℕ) (out : List ℤ) → at ≡ min n (length out) → take at out ≡ take n out
take_least n at out e =
    lt_cases n (length out) (λ h. let d : at ≡ n = omega arith in ap (λ k. take k out) d)
    (λ h. let d : at ≡ length out = omega arith in ap (λ k. take k out) d ∙ take_all (length out) out (omega arith) ∙ sym (take_all n out h))

drop_least : (n at : ℕ) (out : List ℤ) → at ≡ min n (length out) → drop at out ≡ drop n out
drop_least n at out e =
    lt_cases n (length out) (λ h. let d : at ≡ n = omega arith in ap (λ k. drop k out) d)
    (λ h. drop_of_length-le out {i = at} (omega arith) ∙ sym (drop_of_length-le out {i = n} h))

-- all the rest is lent
rest_lent : (out : List ℤ) (at : ℕ) → take (length out - at) (drop at out) ≡ drop at out
rest_lent out at = take_all (length out - at) (drop at out) (omega (arith, length-drop at out))

rest_back : (out ys : List ℤ) (at : ℕ) → take at out ++ (ys ++ drop (length out - at) (drop at out)) ≡ take at out ++ ys
rest_back out ys at =
    ap (λ l. take at out ++ (ys ++ l)) (drop_of_length-le (drop at out) {i = length out - at} (omega (arith, length-drop at out)))
    ∙ ap (λ l. take at out ++ l) (append-nil ys)

pub back_length : (out ys : List ℤ) (at : ℕ) → length ys ≡ length (take (length out - at) (drop at out))
    → length (take at out ++ (ys ++ drop (length out - at) (drop at out))) ≡ length out
back_length out ys at e =
    let rest : length (take (length out - at) (drop at out)) ≡ length out - at = ap length (rest_lent out at) ∙ length-drop at out in
    ap length (rest_back out ys at) ∙ length-append (take at out) ys ∙ omega (arith, length-take at out)

pub over_rest : (a b old out ys : List ℤ) (n at : ℕ) → n ≡ length a → out ≡ over a old → at ≡ min n (length out)
    → ys ≡ over b (take (length out - at) (drop at out)) → take at out ++ (ys ++ drop (length out - at) (drop at out)) ≡ over (a ++ b) old
over_rest a b old out ys n at en eo ea ey =
    rest_back out ys at
    ∙ ap₂ ◌++◌ (take_least n at out ea) (ey ∙ ap (over b) (rest_lent out at ∙ drop_least n at out ea))
    ∙ ap₂ (λ n out. take n out ++ over b (drop n out)) en eo
    ∙ sym (over_append a b old)

pub words_append : (v w : List ℕ) → words (v ++ w) ≡ words v ++ words w
words_append [] w = refl
words_append (x ∷ v) w = ap (λ l. pos x ∷ l) (words_append v w)

pub words_length : (w : List ℕ) → length (words w) ≡ length w
words_length w = length-map w pos

-- ---- what is counted and written is settled, where there is one list with `Is`

pub writes_count : (Is : List ℕ → Type 0) (old new : List ℤ) (n : ℕ) → Writes Is old new n → CountOf Is n
writes_count Is old new n w = record { list = w.list; is = w.is; count = w.count }

-- where all of it fits, it stands before what the other entries held
pub writes_whole : (Is : List ℕ → Type 0) (old new : List ℤ) (n : ℕ) (w : Writes Is old new n) → n ≤ length old → new ≡ words w.list ++ drop n old
writes_whole Is old new n w h =
    let e : length (words w.list) ≡ n = words_length w.list ∙ sym w.count in
    w.content ∙ over_whole (words w.list) old (omega arith) ∙ ap (λ k. words w.list ++ drop k old) e

module _ (Is : List ℕ → Type 0) (one : (v w : List ℕ) → Is v → Is w → v ≡ w) where
  pub count_one : (m n : ℕ) → CountOf Is m → CountOf Is n → m ≡ n
  count_one m n a b = a.count ∙ ap length (one a.list b.list a.is b.is) ∙ sym b.count
