-- Neighbours: how a find, the number of a side, the count and the list give the call's promise. Assumes nothing.
use Rattle.std.specs.Prelude.{◌≡◌, refl, List, map, ℕ, ◌+◌, ◌-◌, ◌≤◌, ◌<◌, ◌^◌, ℤ, pos, length, drop, get_or, Result}
use Rattle.std.proofs.Common.{sym, ap, ◌∙◌, subst, subst₂, arith, length-append, length-drop, ext_get_or, get_or-append-add, get_or-drop, SFits, to_z, of_z, to_z-of_z}
use Rattle.std.proofs.lemmas.List.{length-map}
use Rattle.std.proofs.Math.ListN.{get_or-append, get_or-map}
use Rattle.std.specs.Int.{w32}
use Rattle.ruler.specs.Ruler.{ruler, ruler_bits, ruler_pos, pos_ruler}
use Rattle.geometry.specs.Cases.{lt_cases}
use Rattle.geometry.specs.Picture.{ZERO, InPlane, Side}
use Rattle.geometry.specs.Picture
use Rattle.geometry.specs.Turns.{seen, seen_stitches}
use Rattle.geometry.specs.Listed.{entry, listed_short}
use Rattle.table.specs.Sound.{UsedIn}
use Rattle.table.specs.Forms.{plane_in, stitches_in, Forms, used_is}
use Rattle.seek.specs.Find.{Finds}
use Rattle.seek.specs.Neighbours.{IsSide, side_of, Neighbours}
use Rattle.seek.specs.Sides.{good, sees_is, neighbours_listed, neighbours_one}
use Rattle.seek.specs.Listing.{Counts, Written, Lists}
use Rattle.ushanderi.specs.Answers.{SHORT, accepted, answered, answer_of}
use Rattle.ushanderi.specs.Promises.{Fit, FindSays, listed, NeighboursSays}
use Rattle.ushanderi.specs.declared.answer.Answer.{Answer}
use Rattle.ushanderi.specs.declared.answer.Refusal.{Refusal}
use Rattle.ushanderi.specs.Reading.{NotFound, found_at}

pub refused_neighbours : (t : List ℤ) (x y : ℕ) (side : ℤ) (out : List ℤ) (f : Result ℕ Refusal) → FindSays t x y (answer_of f) → NotFound f
    → NeighboursSays t x y side out out (answer_of f)
refused_neighbours t x y side out f (FindSays.unfit u) n = NeighboursSays.unfit u refl
refused_neighbours t x y side out f (FindSays.point h p e) n = NeighboursSays.point h p e refl
refused_neighbours t x y side out f (FindSays.done h i k e) n = absurd (n i (found_at f i e))

pub neighbours_bits : {t out out' : List ℤ} {a : Answer} (x y side : ℤ) → SFits w32 x → SFits w32 y → SFits w32 side
    → NeighboursSays t (ruler (to_z w32 (of_z w32 x))) (ruler (to_z w32 (of_z w32 y))) (to_z w32 (of_z w32 side)) out out' a
    → NeighboursSays t (ruler x) (ruler y) side out out' a
neighbours_bits {t} {out} {out'} {a} x y side f g h s =
    subst (λ side. NeighboursSays t (ruler x) (ruler y) side out out' a) (to_z-of_z h)
    (subst₂ (λ x y. NeighboursSays t x y (to_z w32 (of_z w32 side)) out out' a) (ruler_bits x f) (ruler_bits y g) s)

-- the word at this number of the ruler is 0, 1, 2 or 3
pub record SideNumber (side : ℕ) : Type 0 where
  pub from : ZERO ≤ side
  pub below : side < ZERO + 4

pub side_is : (side : ℤ) (n : ℕ) → n ≡ ruler side → SideNumber n → IsSide side (n - ZERO)
side_is side n e h = record { is = pos_ruler side (omega (arith, h.from)) ∙ ap (λ n. pos (n - ZERO)) (sym e); below = omega (arith, h) }

pub side_not : (side : ℤ) (n : ℕ) → n ≡ ruler side → (SideNumber n → ⊥) → (s : ℕ) → IsSide side s → ⊥
side_not side n e h s k =
    let d : ruler side ≡ s + ZERO = ap ruler k.is ∙ ruler_pos s in
    h (record { from = omega arith; below = omega (arith, k.below) })

-- what is found lies in the plane
pub finds_in_plane : (t : List ℤ) → Forms t → (x y i : ℕ) → Finds t x y i → InPlane x y
finds_in_plane t f x y i h = let w = f.good.formed i (used_is t i h.used) in omega (arith, h.has)

-- a tile has no more neighbours on a side than the plane has columns, or rows
width : (t : List ℤ) (s : Side) → (seen s (plane_in t)).W ≡ 33554432
width t Picture.top = refl
width t Picture.right = refl
width t Picture.bottom = refl
width t Picture.left = refl

neighbours_short : (t : List ℤ) → Forms t → (s : Side) (i : ℕ) → UsedIn t i → (ks : List ℕ) → Neighbours t s i ks → length ks < 2 ^ 31
neighbours_short t f s i u ks l = lt_cases 0 (length ks) last (λ h. omega arith)
  where
    last : 0 < length ks → length ks < 2 ^ 31
    last h =
        let g = good t f s i u in
        let n = neighbours_listed t f s i u ks l in
        let o : length ks - 1 < length ks = omega arith in
        let w = g.formed (entry ks (length ks - 1)) (n.each (length ks - 1) o).is in
        omega (arith, w.x_lo, width t s, listed_short (seen s (plane_in t)) (seen_stitches s (stitches_in t)) g i (sees_is t f s i u) ks n (length ks - 1) o)

pub counts_low : (t : List ℤ) → Forms t → (s : Side) (i n : ℕ) → UsedIn t i → Counts t s i n → n < 2 ^ 31
counts_low t f s i n u c = omega (arith, c.count, neighbours_short t f s i u c.list c.are)

-- what is written entry by entry is the list before the rest of the lent one
written_listed : (ks : List ℕ) (old new : List ℤ) → length ks ≤ length old → Written ks (length ks) old new → new ≡ listed ks old
written_listed ks old new h w = ext_get_or (pos 0) new (listed ks old) (w.same_length ∙ long) entries
  where
    first : length (map pos ks) ≡ length ks
    first = length-map ks pos

    long : length old ≡ length (listed ks old)
    long = omega (arith, length-append (map pos ks) (drop (length ks) old), first, length-drop (length ks) old)

    rest : (k : ℕ) → length ks ≤ k → get_or old k (pos 0) ≡ get_or (listed ks old) k (pos 0)
    rest k o =
        let e : length (map pos ks) + (k - length ks) ≡ k = omega (arith, first) in
        let d : length ks + (k - length ks) ≡ k = omega arith in
        sym (ap (λ k. get_or (listed ks old) k (pos 0)) (sym e)
        ∙ get_or-append-add (map pos ks) (drop (length ks) old) (k - length ks) (pos 0)
        ∙ get_or-drop (length ks) old (k - length ks) (pos 0)
        ∙ ap (λ k. get_or old k (pos 0)) d)

    entries : (k : ℕ) → k < length new → get_or new k (pos 0) ≡ get_or (listed ks old) k (pos 0)
    entries k o =
        lt_cases k (length ks)
        (λ c. w.entries k c ∙ sym (get_or-append (map pos ks) (drop (length ks) old) (pos 0) k (omega (arith, first)) ∙ get_or-map pos ks k 0))
        (λ c. w.rest k c ∙ rest k c)

-- 10, and what neighbours does where none of 1, 2, 3 and 9 holds
pub data SideSays (t : List ℤ) (s i : ℕ) (out out' : List ℤ) (a : Answer) : Type 0 where
  short : (ks : List ℕ) → Neighbours t (side_of s) i ks → length out < length ks → a ≡ answered SHORT (length ks) → out' ≡ out → SideSays t s i out out' a
  done : (ks : List ℕ) → Neighbours t (side_of s) i ks → length ks ≤ length out → a ≡ accepted (length ks) → out' ≡ listed ks out → SideSays t s i out out' a

pub side_short : (t : List ℤ) (s i n : ℕ) (out : List ℤ) → Counts t (side_of s) i n → length out < n → SideSays t s i out out (answered SHORT n)
side_short t s i n out c h = short c.list c.are (omega (arith, c.count)) (ap (answered SHORT) c.count) refl

pub side_done : (t : List ℤ) → Forms t → (s i n : ℕ) (out out' : List ℤ) → UsedIn t i → Counts t (side_of s) i n → n ≤ length out → Lists t (side_of s) i out out'
    → SideSays t s i out out' (accepted n)
side_done t f s i n out out' u c h l =
    let e : n ≡ length l.list = c.count ∙ ap length (neighbours_one t f (side_of s) i u c.list l.list c.are l.are) in
    done l.list l.are (omega arith) (ap accepted e) (written_listed l.list out out' (omega arith) l.written)

pub side_neighbours : (t : List ℤ) (x y i s : ℕ) (side : ℤ) (out out' : List ℤ) (a : Answer) → Fit t → IsSide side s → Finds t x y i → SideSays t s i out out' a
    → NeighboursSays t x y side out out' a
side_neighbours t x y i s side out out' a f k h (short ks n l e o) = NeighboursSays.short f s i ks k h n l e o
side_neighbours t x y i s side out out' a f k h (done ks n l e o) = NeighboursSays.done f s i ks k h n l e o
