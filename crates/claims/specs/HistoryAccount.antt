-- Laws of the account: what is among it, that no tile is there twice, and the account as a set of solids. Assumes nothing.
use Rattle.std.specs.Prelude.{◌≡◌, refl, ◌⊎◌, Bool, true, false, not, List, [], ◌∷◌, ℕ, zero, suc, ◌≤◌, ◌<◌, ◌^◌, length, get_or, T, leb, ltb}
use Rattle.std.proofs.Common.{sym, ap, subst, inl, inr, ⊎_elim, not-suc-le-zero, le_of_suc-le-suc, arith, leb→le, le→leb, ltb→lt, lt→ltb, T_not}
use mathlib.Core.List.Memᴰ
use Rattle.geometry.specs.Cases.{below_suc, T_and, and_l, and_r}
use Rattle.geometry.specs.Sums.{sum_const}
use Rattle.geometry.specs.Picture.{Tile, Has, number}
use Rattle.geometry.specs.Counting.{count}
use Rattle.layout.specs.Bytes.{saved_at, word_at}
use Rattle.claims.specs.History.{Among, Distinct, none, more, within, holds, unless, without, filed_at, filed, blank, set_of}

-- ---- the test is Picture's `Has`

within_is : (from to x : ℕ) → T (within from to x) → (from ≤ x) × (x < to)
within_is from to x t = (leb→le from x (and_l (leb from x) (ltb x to) t), ltb→lt x to (and_r (leb from x) (ltb x to) t))

is_within : (from to x : ℕ) → from ≤ x → x < to → T (within from to x)
is_within from to x h k = T_and (leb from x) (ltb x to) (le→leb from x h) (lt→ltb x to k)

pub holds_has : (v : Tile) (x y : ℕ) → T (holds v x y) → Has v x y
holds_has v x y t =
    let (l, r) = within_is v.left v.right x (and_l (within v.left v.right x) (within v.bottom v.top y) t) in
    let (b, u) = within_is v.bottom v.top y (and_r (within v.left v.right x) (within v.bottom v.top y) t) in
    record { left = l; right = r; bottom = b; top = u }

pub has_holds : (v : Tile) (x y : ℕ) → Has v x y → T (holds v x y)
has_holds v x y h =
    T_and (within v.left v.right x) (within v.bottom v.top y) (is_within v.left v.right x h.left h.right)
    (is_within v.bottom v.top y h.bottom h.top)

-- ---- without the tile of a cell

among_unless : (b : Bool) (v w : Tile) (S : List Tile) → Among (unless b v S) w → ((w ≡ v) × T (not b)) ⊎ Among S w
among_unless true v w S m = inr m
among_unless false v w S (Memᴰ.head e) = inl (e, tt)
among_unless false v w S (Memᴰ.tail m) = inr m

unless_tail : (b : Bool) (v w : Tile) (S : List Tile) → Among S w → Among (unless b v S) w
unless_tail true v w S m = m
unless_tail false v w S m = Memᴰ.tail m

unless_head : (b : Bool) (v w : Tile) (S : List Tile) → (T b → ⊥) → w ≡ v → Among (unless b v S) w
unless_head true v w S n e = absurd (n tt)
unless_head false v w S n e = Memᴰ.head e

pub among_without : (x y : ℕ) (S : List Tile) (w : Tile) → Among (without x y S) w → Among S w × (Has w x y → ⊥)
unfolding without
among_without x y [] w m = absurd (Memᴰ.not-nil m)
among_without x y (v ∷ S) w m = ⊎_elim
    (λ p. (Memᴰ.head p.0, λ h. T_not (holds v x y) p.1 (has_holds v x y (subst (λ v. Has v x y) p.0 h))))
    (λ k. let r = among_without x y S w k in (Memᴰ.tail r.0, r.1))
    (among_unless (holds v x y) v w (without x y S) m)

pub without_among : (x y : ℕ) (S : List Tile) (w : Tile) → Among S w → (Has w x y → ⊥) → Among (without x y S) w
unfolding without
without_among x y (v ∷ S) w (Memᴰ.head e) n =
    unless_head (holds v x y) v w (without x y S) (λ t. n (subst (λ v. Has v x y) (sym e) (holds_has v x y t))) e
without_among x y (v ∷ S) w (Memᴰ.tail m) n = unless_tail (holds v x y) v w (without x y S) (without_among x y S w m n)
without_among x y [] w x3 n = elim x3 [ ]

distinct_unless : (b : Bool) (v : Tile) (S : List Tile) → (Among S v → ⊥) → Distinct S → Distinct (unless b v S)
distinct_unless true v S n d = d
distinct_unless false v S n d = more n d

pub distinct_without : (x y : ℕ) (S : List Tile) → Distinct S → Distinct (without x y S)
unfolding without
distinct_without x y [] none = none
distinct_without x y (v ∷ S) (more n d) =
    distinct_unless (holds v x y) v (without x y S) (λ m. n (among_without x y S v m).0) (distinct_without x y S d)

-- ---- the records of a file

pub filed_length : (bs : List ℕ) (n : ℕ) → length (filed bs n) ≡ n
unfolding filed
filed_length bs zero = refl
filed_length bs (suc n) = ap suc (filed_length bs n)

pub filed_among : (bs : List ℕ) (n m : ℕ) → m < n → Among (filed bs n) (filed_at bs m)
unfolding filed
filed_among bs zero m h = absurd (not-suc-le-zero h)
filed_among bs (suc n) m h = below_suc m n h (λ k. Memᴰ.tail (filed_among bs n m k)) (λ e. Memᴰ.head (ap (filed_at bs) e))

pub among_filed : (bs : List ℕ) (n : ℕ) (v : Tile) → Among (filed bs n) v → (m : ℕ) × (m < n) × (v ≡ filed_at bs m)
unfolding filed
among_filed bs zero v i = absurd (Memᴰ.not-nil i)
among_filed bs (suc n) v (Memᴰ.head e) = (n, omega arith, e)
among_filed bs (suc n) v (Memᴰ.tail i) = let (m, h, e) = among_filed bs n v i in (m, omega arith, e)

-- a label read from a file is a word
pub filed_label : (bs : List ℕ) (n : ℕ) → (saved_at bs n).label < 2 ^ 32
unfolding saved_at word_at
filed_label bs n = omega arith

-- ---- the account as a set

pub at_among : (S : List Tile) (k : ℕ) → k < length S → Among S (get_or S k blank)
at_among [] k h = absurd (not-suc-le-zero h)
at_among (v ∷ S) zero h = Memᴰ.head refl
at_among (v ∷ S) (suc k) h = Memᴰ.tail (at_among S k (le_of_suc-le-suc h))

pub among_at : (S : List Tile) (w : Tile) → Among S w → (k : ℕ) × (k < length S) × (get_or S k blank ≡ w)
among_at (v ∷ S) w (Memᴰ.head e) = (0, omega arith, sym e)
among_at (v ∷ S) w (Memᴰ.tail m) = let (k, h, e) = among_at S w m in (suc k, omega arith, e)
among_at [] w x' = elim x' [ ]

pub distinct_at : (S : List Tile) → Distinct S → (j k : ℕ) → j < length S → k < length S → get_or S j blank ≡ get_or S k blank → j ≡ k
distinct_at [] none j k h l e = absurd (not-suc-le-zero h)
distinct_at (v ∷ S) (more n d) zero zero h l e = refl
distinct_at (v ∷ S) (more n d) zero (suc k) h l e = absurd (n (subst (Among S) (sym e) (at_among S k (le_of_suc-le-suc l))))
distinct_at (v ∷ S) (more n d) (suc j) zero h l e = absurd (n (subst (Among S) e (at_among S j (le_of_suc-le-suc h))))
distinct_at (v ∷ S) (more n d) (suc j) (suc k) h l e = ap suc (distinct_at S d j k (le_of_suc-le-suc h) (le_of_suc-le-suc l) e)

pub set_number : (S : List Tile) → number (set_of S) ≡ length S
unfolding count
set_number S = omega (arith, sum_const (length S) 1)
