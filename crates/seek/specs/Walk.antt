-- The walk along a side as the code does it: which words it reads, and where it stands in the list of neighbours. Assumes nothing.
use Rattle.std.specs.Prelude.{◌≡◌, refl, ◌≢◌, Bool, Option, Some, None, List, ℕ, zero, suc, ◌+◌, ◌-◌, ◌*◌, ◌≤◌, ◌<◌, ℤ, length, get_or}
use Rattle.std.proofs.Common.{sym, ap, ◌∙◌, subst, arith}
use Rattle.std.proofs.Math.Bool.{true, false}
use Rattle.std.proofs.lemmas.Option.{same_Some, none-some}
use Rattle.geometry.specs.Picture.{LOW, HIGH, Side, top, right, bottom, left}
use Rattle.geometry.specs.Plane.{Plane, hi}
use Rattle.geometry.specs.Stitches.{Stitches}
use Rattle.geometry.specs.Turns.{seen, seen_stitches}
use Rattle.geometry.specs.Listed.{Listed, entry, listed_none, listed_first, listed_last, listed_next, listed_short}
use Rattle.table.specs.Words.{WIDTH, records_of, num, LEFT, BOTTOM, RIGHT, TOP, TR, RT, BL, LB}
use Rattle.table.specs.Sound.{SizeRight, UsedIn}
use Rattle.table.specs.Forms.{plane_in, stitches_in, link, Forms}
use Rattle.seek.specs.Neighbours.{side_of, Neighbours}
use Rattle.seek.specs.Sides.{good, sees_is, neighbours_listed}
use Rattle.seek.specs.declared.side.Side as Given
use Rattle.seek.specs.declared.side.Side.TheVariants.{Right, Left, Top, Bottom}
use Rattle.seek.specs.declared.side.SideWords.{SideWords}
use Rattle.seek.specs.declared.side.Walk.{Walk}

-- a side as the code names it
abbrev pub side_in : Given.Side → Side
side_in Right = right
side_in Left = left
side_in Top = top
side_in Bottom = bottom

-- the words of each side: 01's table of stitches, and the two edges
abbrev pub words_of : Side → SideWords
words_of right = record { start = TR; next = LB; edge = BOTTOM; rim = RIGHT; rises = false }
words_of left = record { start = BL; next = RT; edge = TOP; rim = LEFT; rises = true }
words_of top = record { start = RT; next = BL; edge = LEFT; rim = TOP; rises = false }
words_of bottom = record { start = LB; next = TR; edge = RIGHT; rim = BOTTOM; rises = true }

pub last_side : (n : ℕ) → n ≢ 0 → n ≢ 1 → n ≢ 2 → side_of n ≡ bottom
unfolding side_of
last_side zero a b c = absurd (a refl)
last_side (suc zero) a b c = absurd (b refl)
last_side (suc (suc zero)) a b c = absurd (c refl)
last_side (suc (suc (suc n))) a b c = refl

-- a number as the side sees it: where numbers rise along the walk, the plane is turned
abbrev pub seen_at : Bool → ℕ → ℕ
seen_at true x = LOW + HIGH - x
seen_at false x = x

-- ---- where a walk stands

-- k is entry n of the list
pub record Here (L : List ℕ) (n k : ℕ) : Type 0 where
  pub below : n < length L
  pub is : k ≡ get_or L n 0

-- the walk along side s of record i has come to place n of the list L
pub record Place (t : List ℤ) (s : Side) (i : ℕ) (L : List ℕ) (n : ℕ) (w : Walk) : Type 0 where
  pub next : w.next ≡ (words_of s).next
  pub edge : w.edge ≡ (words_of s).edge
  pub rises : w.rises ≡ (words_of s).rises
  pub stop : w.stop ≡ seen_at (words_of s).rises (num t i (words_of s).edge)
  pub here : (k : ℕ) → w.at ≡ Some k → Here L n k
  pub done : w.at ≡ None → n ≡ length L

-- a walk stands at the first neighbour
unfoldable pub Begins : List ℤ → Side → ℕ → Walk → Type 0
Begins t s i w = (L : List ℕ) → Neighbours t s i L → Place t s i L 0 w

-- it stands at a neighbour
pub record Goes (t : List ℤ) (w : Walk) : Type 0 where
  pub side : Side
  pub of : ℕ
  pub list : List ℕ
  pub count : ℕ
  pub used : UsedIn t of
  pub are : Neighbours t side of list
  pub place : Place t side of list count w
  pub at : ℕ
  pub stands : w.at ≡ Some at

-- and a step brings it to the next place
unfoldable pub Steps : List ℤ → Walk → Walk → Type 0
Steps t w w' = (s : Side) (i : ℕ) (L : List ℕ) (n : ℕ) → UsedIn t i → Neighbours t s i L → Place t s i L n w → Place t s i L (n + 1) w'

-- ---- the words are those of the plane seen from the side

record Reads (t : List ℤ) (s : Side) (k : ℕ) : Type 0 where
  lead : (seen s (plane_in t)).l k ≡ seen_at (words_of s).rises (num t k (words_of s).edge)
  over : (seen s (plane_in t)).t k ≡ seen_at (words_of s).rises (num t k (words_of s).rim)
  start : (seen_stitches s (stitches_in t)).rt k ≡ link (num t k (words_of s).start)
  next : (seen_stitches s (stitches_in t)).bl k ≡ link (num t k (words_of s).next)
  high : hi (seen s (plane_in t)) ≡ HIGH

reads : (t : List ℤ) (s : Side) (k : ℕ) → Reads t s k
reads t top k = record { lead = refl; over = refl; start = refl; next = refl; high = refl }
reads t right k = record { lead = refl; over = refl; start = refl; next = refl; high = refl }
reads t bottom k = record { lead = refl; over = refl; start = refl; next = refl; high = refl }
reads t left k = record { lead = refl; over = refl; start = refl; next = refl; high = refl }

pub record Below (w : SideWords) : Type 0 where
  pub start : w.start < WIDTH
  pub next : w.next < WIDTH
  pub edge : w.edge < WIDTH
  pub rim : w.rim < WIDTH

pub words_below : (s : Side) → Below (words_of s)
words_below top = omega arith
words_below right = omega arith
words_below bottom = omega arith
words_below left = omega arith

-- the words of a side, however they are given
pub below_of : (s : Side) (v : SideWords) → v ≡ words_of s → Below v
below_of s v e = subst Below (sym e) (words_below s)

-- ---- the walk follows the list

module _ (t : List ℤ) (f : Forms t) (z : SizeRight t) where
  module _ (s : Side) (i : ℕ) (u : UsedIn t i) where
    abbrev Q : Plane
    Q = seen s (plane_in t)

    abbrev Z : Stitches
    Z = seen_stitches s (stitches_in t)

    listed : (L : List ℕ) → Neighbours t s i L → Listed Q i L
    listed = neighbours_listed t f s i u

    -- an entry is a record
    here_below : (L : List ℕ) (n k : ℕ) → Neighbours t s i L → Here L n k → k < records_of t
    here_below L n k l h = omega (arith, h.is, (l.each n h.below).used.below)

    -- the walk begins, with the side's words in v
    module _ (v : SideWords) (e : v ≡ words_of s) where
      abbrev pub walk_from : Option ℕ → ℕ → Walk
      walk_from at stop = record { at = at; stop = stop; next = v.next; edge = v.edge; rises = v.rises }

      begun : (L : List ℕ) (at : Option ℕ) (stop : ℕ) → stop ≡ seen_at v.rises (num t i v.edge) → ((k : ℕ) → at ≡ Some k → Here L 0 k) → (at ≡ None → 0 ≡ length L)
          → Place t s i L 0 (walk_from at stop)
      begun L at stop d here done = record {
        next = ap (λ v. v.next) e;
        edge = ap (λ v. v.edge) e;
        rises = ap (λ v. v.rises) e;
        stop = d ∙ ap (λ v. seen_at v.rises (num t i v.edge)) e;
        here = here;
        done = done;
      }

      rim_is : seen_at v.rises (num t i v.rim) ≡ Q.t i
      rim_is = ap (λ v. seen_at v.rises (num t i v.rim)) e ∙ sym (reads t s i).over

      pub begins_none : (stop : ℕ) → stop ≡ seen_at v.rises (num t i v.edge) → HIGH ≤ seen_at v.rises (num t i v.rim) → Begins t s i (walk_from None stop)
      unfolding Begins
      begins_none stop d h L l =
          begun L None stop d (λ k e. absurd (none-some k e))
          (λ _. sym (listed_none Q Z (good t f s i u) i (sees_is t f s i u) L (listed L l) (omega (arith, h, rim_is, (reads t s i).high))))

      first : (L : List ℕ) → Neighbours t s i L → seen_at v.rises (num t i v.rim) < HIGH → Here L 0 (link (num t i v.start))
      first L l h =
          let (o, q) = listed_first Q Z (good t f s i u) i (sees_is t f s i u) L (listed L l) (omega (arith, h, rim_is, (reads t s i).high)) in
          record { below = o; is = ap (λ v. link (num t i v.start)) e ∙ sym (q ∙ (reads t s i).start) }

      pub begins_some : (stop : ℕ) → stop ≡ seen_at v.rises (num t i v.edge) → seen_at v.rises (num t i v.rim) < HIGH
          → Begins t s i (walk_from (Some (link (num t i v.start))) stop)
      unfolding Begins
      begins_some stop d h L l = begun L (Some _) stop d (λ k e. subst (Here L 0) (same_Some _ k e) (first L l h)) (λ e. absurd (none-some _ (sym e)))

    -- a step from place n
    module _ (L : List ℕ) (n : ℕ) (w : Walk) (l : Neighbours t s i L) (p : Place t s i L n w) (k : ℕ) (m : w.at ≡ Some k) where
      -- the number that the step compares is the side's
      compares : seen_at w.rises (num t k w.edge) ≡ Q.l (entry L n)
      compares =
          ap (λ b. seen_at b (num t k w.edge)) p.rises
          ∙ ap (λ e. seen_at (words_of s).rises (num t k e)) p.edge
          ∙ ap (λ j. seen_at (words_of s).rises (num t j (words_of s).edge)) (p.here k m).is
          ∙ sym (reads t s (entry L n)).lead

      stops : w.stop ≡ Q.l i
      stops = p.stop ∙ sym (reads t s i).lead

      names : Z.bl (entry L n) ≡ link (num t k w.next)
      names =
          (reads t s (entry L n)).next ∙ ap (λ j. link (num t j (words_of s).next)) (sym (p.here k m).is)
          ∙ ap (λ e. link (num t k e)) (sym p.next)

      pub at_below : k < records_of t
      at_below = here_below L n k l (p.here k m)

      pub step_last : seen_at w.rises (num t k w.edge) ≤ w.stop → n + 1 ≡ length L
      step_last h =
          listed_last Q Z (good t f s i u) i (sees_is t f s i u) L (listed L l) n (p.here k m).below (omega (arith, compares, stops))

      pub step_next : w.stop < seen_at w.rises (num t k w.edge) → Here L (n + 1) (link (num t k w.next))
      step_next h =
          let (o, e) = listed_next Q Z (good t f s i u) i (sees_is t f s i u) L (listed L l) n (p.here k m).below (omega (arith, compares, stops)) in
          record { below = o; is = sym (e ∙ names) }

      -- a list is short, so that a count of it fits
      pub place_short : n < HIGH
      place_short =
          omega (arith, listed_short Q Z (good t f s i u) i (sees_is t f s i u) L (listed L l) n (p.here k m).below, (reads t s i).high)

  pub steps_end : (w : Walk) (k : ℕ) → w.at ≡ Some k → seen_at w.rises (num t k w.edge) ≤ w.stop
      → Steps t w (record { at = None; stop = w.stop; next = w.next; edge = w.edge; rises = w.rises })
  unfolding Steps
  steps_end w k m h s i L n u l p = record {
    next = p.next;
    edge = p.edge;
    rises = p.rises;
    stop = p.stop;
    here = λ j e. absurd (none-some j e);
    done = λ e. step_last s i u L n w l p k m h;
  }

  pub steps_on : (w : Walk) (k : ℕ) → w.at ≡ Some k → w.stop < seen_at w.rises (num t k w.edge)
      → Steps t w (record { at = Some (link (num t k w.next)); stop = w.stop; next = w.next; edge = w.edge; rises = w.rises })
  unfolding Steps
  steps_on w k m h s i L n u l p = record {
    next = p.next;
    edge = p.edge;
    rises = p.rises;
    stop = p.stop;
    here = λ j e. subst (Here L (n + 1)) (same_Some _ j e) (step_next s i u L n w l p k m h);
    done = λ e. absurd (none-some _ (sym e));
  }

  -- what a step reads is there
  pub record Inside (w : Walk) (k : ℕ) : Type 0 where
    pub edge : WIDTH * k + w.edge < length t
    pub next : WIDTH * k + w.next < length t

  pub goes_inside : (w : Walk) (g : Goes t w) → Inside w g.at
  goes_inside w g =
      let o = at_below g.side g.of g.used g.list g.count w g.are g.place g.at g.stands in
      let b = words_below g.side in
      record { edge = omega (arith, g.place.edge); next = omega (arith, g.place.next) }
