-- A test that tells exactly whether a table is sound, in time of the square of its records: for tables that are written out. Assumes nothing.
use Rattle.std.specs.Prelude.{Bool, false, not, ◌&&◌, ◌||◌, List, ℕ, zero, suc, ◌-◌, ◌*◌, ◌≤◌, ◌<◌, ℤ, ltb}
use Rattle.std.proofs.Common.{sym, subst, arith, leb→le, le→leb}
use Rattle.std.proofs.Math.Bool.{true, cond}
use Rattle.std.proofs.Math.Dec.{T, leb, eqb}
use Rattle.geometry.specs.Cases.{below_suc, T_and, and_l, and_r}
use Rattle.geometry.specs.Picture.{ZERO, LOW, HIGH, FREE, SPACE, SOLID, Has}
use Rattle.geometry.specs.Plane.{area}
use Rattle.table.specs.Words.{WIDTH, LEFT, BOTTOM, RIGHT, TOP, TR, RT, BL, LB, KIND, LABEL, records_of, num, tile_of}
use Rattle.table.specs.Sound.{capacity, NONE, solids_in}
use Rattle.table.specs.Forms.{plane_in}

-- ---- tests and what they say

-- every number below n passes. A `let` is computed only where it is read, an argument always.
unfoldable pub all_below : (ℕ → Bool) → ℕ → Bool
all_below p zero = true
all_below p (suc n) = let r = all_below p n in p n && r

pub all_below_lem : (p : ℕ → Bool) (n : ℕ) → T (all_below p n) → (k : ℕ) → k < n → T (p k)
unfolding all_below
all_below_lem p zero t k h = absurd (omega arith)
all_below_lem p (suc n) t k h =
    below_suc k n h (λ l. all_below_lem p n (and_r (p n) (all_below p n) t) k l) (λ e. subst (λ k. T (p k)) (sym e) (and_l (p n) (all_below p n) t))

pub below_all : (p : ℕ → Bool) (n : ℕ) → ((k : ℕ) → k < n → T (p k)) → T (all_below p n)
unfolding all_below
below_all p zero f = tt
below_all p (suc n) f = T_and (p n) (all_below p n) (f n (omega arith)) (below_all p n (λ k h. f k (omega arith)))

pub or_cases : {C : Type 0} (a b : Bool) → T (a || b) → (T a → C) → (T b → C) → C
or_cases true b t f g = f tt
or_cases false b t f g = g t

-- the tests of numbers, shut, so that a proof never counts up to a number
pub le_T : (m n : ℕ) → m ≤ n → T (leb m n)
le_T m n h = le→leb m n h

-- ---- one record

abbrev pub usedb : List ℤ → ℕ → Bool
usedb t i = not (eqb (num t i KIND) FREE)

abbrev pub solidb : List ℤ → ℕ → Bool
solidb t i = eqb (num t i KIND) SOLID

unfoldable pub zerob : List ℤ → ℕ → Bool
unfolding all_below
zerob t i = all_below (λ k. eqb (num t i k) ZERO) WIDTH

unfoldable pub formedb : List ℤ → ℕ → Bool
formedb t i =
    leb LOW (num t i LEFT) && (ltb (num t i LEFT) (num t i RIGHT) && (leb (num t i RIGHT) HIGH
    && (leb LOW (num t i BOTTOM) && (ltb (num t i BOTTOM) (num t i TOP) && leb (num t i TOP) HIGH))))

unfoldable pub kindedb : List ℤ → ℕ → Bool
kindedb t i = (eqb (num t i KIND) SPACE && eqb (num t i LABEL) ZERO) || (eqb (num t i KIND) SOLID && ltb ZERO (num t i LABEL))

-- ---- one stitch

abbrev pub insideb : ℕ → ℕ → Bool
insideb x y = leb LOW x && (ltb x HIGH && (leb LOW y && ltb y HIGH))

abbrev pub hasb : List ℤ → ℕ → ℕ → ℕ → Bool
hasb t i x y = leb (num t i LEFT) x && (ltb x (num t i RIGHT) && (leb (num t i BOTTOM) y && ltb y (num t i TOP)))

unfoldable pub namedb : List ℤ → ℕ → ℕ → ℕ → Bool
namedb t w x y = leb ZERO w && (ltb (w - ZERO) (records_of t) && (usedb t (w - ZERO) && hasb t (w - ZERO) x y))

unfoldable pub namesb : List ℤ → ℕ → ℕ → ℕ → Bool
unfolding namedb
namesb t w x y = let a = namedb t w x y in let n = eqb w NONE in cond (insideb x y) a n

pub hasb_has : (t : List ℤ) (i x y : ℕ) → T (hasb t i x y) → Has (tile_of t i) x y
hasb_has t i x y b = search (and_l, and_r, leb→le) depth 9

pub has_hasb : (t : List ℤ) (i x y : ℕ) → Has (tile_of t i) x y → T (hasb t i x y)
has_hasb t i x y h = search (T_and, le_T)

unfoldable pub stitchedb : List ℤ → ℕ → Bool
unfolding namesb
stitchedb t i =
    namesb t (num t i TR) (num t i RIGHT) (num t i TOP - 1) && (namesb t (num t i RT) (num t i RIGHT - 1) (num t i TOP)
    && (namesb t (num t i BL) (num t i LEFT - 1) (num t i BOTTOM) && namesb t (num t i LB) (num t i LEFT) (num t i BOTTOM - 1)))

-- ---- a record, used or free

unfoldable pub recordb : List ℤ → ℕ → Bool
unfolding zerob formedb kindedb stitchedb
recordb t i = let z = zerob t i in let u = formedb t i && (kindedb t i && stitchedb t i) in cond (usedb t i) u z

-- ---- two records

-- two rectangles share no cell
abbrev pub apartb : List ℤ → ℕ → ℕ → Bool
apartb t i j =
    eqb i j || (leb (num t i RIGHT) (num t j LEFT) || (leb (num t j RIGHT) (num t i LEFT)
    || (leb (num t i TOP) (num t j BOTTOM) || leb (num t j TOP) (num t i BOTTOM))))

-- j does not stand at i's right side
abbrev pub besideb : List ℤ → ℕ → ℕ → Bool
besideb t i j =
    ltb (num t i RIGHT) (num t j LEFT) || (leb (num t j RIGHT) (num t i RIGHT)
    || (leb (num t i TOP) (num t j BOTTOM) || leb (num t j TOP) (num t i BOTTOM)))

-- j does not stand on i with the same span
abbrev pub mergedb : List ℤ → ℕ → ℕ → Bool
mergedb t i j = not (eqb (num t i LEFT) (num t j LEFT) && (eqb (num t i RIGHT) (num t j RIGHT) && eqb (num t i TOP) (num t j BOTTOM)))

unfoldable pub pairb : List ℤ → ℕ → ℕ → Bool
pairb t i j =
    let a = apartb t i j in
    let m = besideb t i j && mergedb t i j in
    let s = cond (not (solidb t i) && not (solidb t j)) m true in
    let r = a && s in
    cond (usedb t i && usedb t j) r true

unfoldable pub soundb : List ℤ → Bool
unfolding all_below recordb pairb area
soundb t =
    all_below (recordb t) (records_of t) && (all_below (λ i. all_below (pairb t i) (records_of t)) (records_of t)
    && (eqb (area (plane_in t)) ((plane_in t).W * (plane_in t).W) && leb (solids_in t) (capacity (records_of t))))
