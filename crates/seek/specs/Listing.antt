-- What counting and listing the neighbours of a tile on a side give, and how far their loops have come. Assumes nothing.
use Rattle.std.specs.Prelude.{◌≡◌, refl, Option, Some, None, List, ℕ, ◌+◌, ◌≤◌, ◌<◌, ℤ, length, get_or, set}
use Rattle.std.proofs.Common.{sym, ◌∙◌, subst, arith, length-set, ext_get_or, get_or-set_same, get_or-set_other}
use Rattle.std.proofs.Math.Path.{ap}
use Rattle.std.proofs.Math.IntN.{pos}
use Rattle.geometry.specs.Cases.{lt_cases, eq_cases}
use Rattle.geometry.specs.Picture.{ZERO, HIGH, Side}
use Rattle.table.specs.Sound.{SizeRight, UsedIn}
use Rattle.table.specs.Forms.{Forms}
use Rattle.seek.specs.Neighbours.{Neighbours}
use Rattle.seek.specs.Sides.{neighbours_some, neighbours_one}
use Rattle.seek.specs.Walk.{Place, Begins, Goes, Steps, place_short, at_below}
use Rattle.seek.specs.declared.side.Walk.{Walk}

-- tile i has n neighbours on side s
pub record Counts (t : List ℤ) (s : Side) (i n : ℕ) : Type 0 where
  pub list : List ℕ
  pub are : Neighbours t s i list
  pub count : n ≡ length list

-- they are at most n
pub record Fits (t : List ℤ) (s : Side) (i n : ℕ) : Type 0 where
  pub list : List ℕ
  pub are : Neighbours t s i list
  pub fits : length list ≤ n

-- the first n record numbers of L are written to a lent list, and its other entries keep what they held
pub record Written (L : List ℕ) (n : ℕ) (old new : List ℤ) : Type 0 where
  pub same_length : length new ≡ length old
  pub entries : (k : ℕ) → k < n → get_or new k (pos 0) ≡ pos (get_or L k 0)
  pub rest : (k : ℕ) → n ≤ k → get_or new k (pos 0) ≡ get_or old k (pos 0)

-- all of them are written
pub record Lists (t : List ℤ) (s : Side) (i : ℕ) (old new : List ℤ) : Type 0 where
  pub list : List ℕ
  pub are : Neighbours t s i list
  pub written : Written list (length list) old new

pub counts_fits : (t : List ℤ) (s : Side) (i m n : ℕ) → Counts t s i m → m ≤ n → Fits t s i n
counts_fits t s i m n c h = record { list = c.list; are = c.are; fits = omega (arith, c.count) }

-- ---- what is counted and written is settled

module _ (t : List ℤ) (f : Forms t) (s : Side) (i : ℕ) (u : UsedIn t i) where
  pub counts_one : (m n : ℕ) → Counts t s i m → Counts t s i n → m ≡ n
  counts_one m n a b = a.count ∙ ap length (neighbours_one t f s i u a.list b.list a.are b.are) ∙ sym b.count

  pub lists_one : (old x y : List ℤ) → Lists t s i old x → Lists t s i old y → x ≡ y
  lists_one old x y a b = settled (subst (λ L. Written L (length L) old x) (neighbours_one t f s i u a.list b.list a.are b.are) a.written) b.written
    where
      settled : {L : List ℕ} {n : ℕ} → Written L n old x → Written L n old y → x ≡ y
      settled {L} {n} a b =
          ext_get_or (pos 0) x y (a.same_length ∙ sym b.same_length)
          (λ k h. lt_cases k n (λ o. a.entries k o ∙ sym (b.entries k o)) (λ o. a.rest k o ∙ sym (b.rest k o)))

-- ---- the loops

pub written_none : (L : List ℕ) (old : List ℤ) → Written L 0 old old
written_none L old = record { same_length = refl; entries = λ k h. absurd (omega arith); rest = λ k h. refl }

pub written_more : (L : List ℕ) (n : ℕ) (old new : List ℤ) (x : ℤ) → n < length old → x ≡ pos (get_or L n 0) → Written L n old new → Written L (n + 1) old (set new n x)
written_more L n old new x h e w = record {
  same_length = length-set new n x ∙ w.same_length;
  entries = λ k o. eq_cases k n
      (λ c. ap (λ k. get_or (set new n x) k (pos 0)) c ∙ get_or-set_same new n x (pos 0) (omega (arith, w.same_length)) ∙ e ∙ ap (λ k. pos (get_or L k 0)) (sym c))
      (λ c. get_or-set_other new n k x (pos 0) c ∙ w.entries k (omega arith));
  rest = λ k o. get_or-set_other new n k x (pos 0) (λ c. omega arith) ∙ w.rest k (omega arith);
}

-- the walk has met n neighbours
pub record Counting (t : List ℤ) (s : Side) (i n : ℕ) (w : Walk) : Type 0 where
  pub list : List ℕ
  pub are : Neighbours t s i list
  pub place : Place t s i list n w

-- and their record numbers are written
pub record Listing (t : List ℤ) (s : Side) (i n : ℕ) (w : Walk) (old new : List ℤ) : Type 0 where
  pub counting : Counting t s i n w
  pub room : length counting.list ≤ length old
  pub written : Written counting.list n old new

module _ (t : List ℤ) (f : Forms t) (z : SizeRight t) (s : Side) (i : ℕ) (u : UsedIn t i) where
  starts : (L : List ℕ) (w : Walk) → Neighbours t s i L → Begins t s i w → Counting t s i 0 w
  unfolding Begins
  starts L w l b = record { list = L; are = l; place = b L l }

  pub counting_starts : (w : Walk) → Begins t s i w → Counting t s i 0 w
  counting_starts w b = let (L, l) = neighbours_some t f s i u in starts L w l b

  pub listing_starts : (w : Walk) (old : List ℤ) → Begins t s i w → Fits t s i (length old) → Listing t s i 0 w old old
  unfolding starts
  listing_starts w old b h = record { counting = starts h.list w h.are b; room = h.fits; written = written_none h.list old }

  module _ (n : ℕ) (w : Walk) (c : Counting t s i n w) (k : ℕ) (m : w.at ≡ Some k) where
    pub counting_goes : Goes t w
    counting_goes = record { side = s; of = i; list = c.list; count = n; used = u; are = c.are; place = c.place; at = k; stands = m }

    pub counting_short : n < HIGH
    counting_short = place_short t f z s i u c.list n w c.are c.place k m

    pub counting_below : k < ZERO
    counting_below = omega (arith, at_below t f z s i u c.list n w c.are c.place k m, z.most)

    pub counting_on : (w' : Walk) → Steps t w w' → Counting t s i (n + 1) w'
    unfolding Steps
    counting_on w' h = record { list = c.list; are = c.are; place = h s i c.list n u c.are c.place }

    -- the list has room for the neighbour
    pub listing_room : (old new : List ℤ) → length c.list ≤ length old → Written c.list n old new → n < length new
    listing_room old new room written = omega (arith, (c.place.here k m).below, written.same_length)

    pub listing_on : (w' : Walk) (old new : List ℤ) (x : ℤ) → Steps t w w' → length c.list ≤ length old → Written c.list n old new → x ≡ pos k
        → Listing t s i (n + 1) w' old (set new n x)
    unfolding counting_on
    listing_on w' old new x h room written e =
        let p = c.place.here k m in
        record {
          counting = counting_on w' h;
          room = room;
          written = written_more c.list n old new x (omega (arith, p.below, room)) (e ∙ ap pos p.is) written;
        }

  pub counting_ends : (n : ℕ) (w : Walk) → Counting t s i n w → w.at ≡ None → Counts t s i n
  counting_ends n w c m = record { list = c.list; are = c.are; count = c.place.done m }

  pub listing_ends : (n : ℕ) (w : Walk) (old new : List ℤ) → Listing t s i n w old new → w.at ≡ None → Lists t s i old new
  listing_ends n w old new l m = record {
    list = l.counting.list;
    are = l.counting.are;
    written = subst (λ n. Written l.counting.list n old new) (l.counting.place.done m) l.written;
  }

  -- the entries are all written
  pub listing_full : (n : ℕ) (w : Walk) (old new : List ℤ) → Listing t s i n w old new → length old ≤ n → Lists t s i old new
  listing_full n w old new l h = listing_ends n w old new l (ended w.at refl)
    where
      ended : (at : Option ℕ) → w.at ≡ at → w.at ≡ None
      ended (Some k) e = absurd (omega (arith, (l.counting.place.here k e).below, l.room))
      ended None e = e
