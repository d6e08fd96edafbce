-- What a run says, and a run after others: what is listed or saved twice is what is listed or saved once. Assumes nothing.
use Rattle.std.specs.Prelude.{◌≡◌, refl, List, [], ◌∷◌, ◌++◌, map, ℕ, ◌≤◌, ◌<◌, ℤ, length, drop}
use Rattle.std.proofs.Common.{ap, ◌∙◌, subst, arith}
use Rattle.std.proofs.lemmas.List.{length-map}
use Rattle.geometry.specs.Cases.{lt_cases}
use Rattle.geometry.specs.Picture.{Side}
use Rattle.table.specs.Words.{records_of}
use Rattle.table.specs.Sound.{UsedIn}
use Rattle.table.specs.Forms.{Forms}
use Rattle.seek.specs.Find.{finds_one}
use Rattle.seek.specs.Meaning.{Area, FreeArea, First}
use Rattle.seek.specs.Neighbours.{side_of}
use Rattle.seek.specs.Sides.{neighbours_one}
use Rattle.seek.specs.Listing.{Written, Lists, Counts, counts_one}
use Rattle.seek.specs.Order.{directed_one}
use Rattle.seek.specs.Writing.{over, words, over_length}
use Rattle.seek.specs.Enumerate.{WritesArea, counts_area_one}
use Rattle.layout.specs.Bytes.{file_bytes}
use Rattle.layout.specs.BytesLaws.{file_length}
use Rattle.layout.specs.Order.{saved_of, Saves}
use Rattle.layout.specs.OneOrder.{one_order}
use Rattle.repeated.specs.Says.{Sees, SideListed, AreaListed}

-- ---- neighbours

written_twice : (L : List ℕ) (n : ℕ) (old mid new : List ℤ) → Written L n old mid → Written L n mid new → Written L n old new
written_twice L n old mid new a b = record {
  same_length = b.same_length ∙ a.same_length;
  entries = b.entries;
  rest = λ k h. b.rest k h ∙ a.rest k h;
}

lists_twice : (t : List ℤ) → Forms t → (s : Side) (i : ℕ) → UsedIn t i → (old mid new : List ℤ) → Lists t s i old mid → Lists t s i mid new → Lists t s i old new
lists_twice t f s i u old mid new a b =
    let e = neighbours_one t f s i u a.list b.list a.are b.are in
    let w : Written b.list (length b.list) old mid = subst (λ L. Written L (length L) old mid) e a.written in
    record { list = b.list; are = b.are; written = written_twice b.list (length b.list) old mid new w b.written }

pub side_twice : (t : List ℤ) → Forms t → (x y side : ℕ) (old mid new : List ℤ) (m n : ℕ) → SideListed t x y side old mid m → SideListed t x y side mid new n
    → SideListed t x y side old new n
side_twice t f x y side old mid new m n a b = lt_cases (length old) n
    (λ h. let k = a.short (omega (arith, same)) in record {
      tile = b.tile;
      finds = b.finds;
      counts = b.counts;
      short = λ _. b.short (omega (arith, ap length k)) ∙ k;
      lists = λ g. absurd (omega arith);
    })
    (λ h.
    let u = lists (omega (arith, same)) in
    record {
      tile = b.tile;
      finds = b.finds;
      counts = b.counts;
      short = λ g. absurd (omega arith);
      lists = λ g. lists_twice t f (side_of side) b.tile b.finds.used old mid new u (b.lists (omega (arith, u.written.same_length)));
    })
  where
    one : a.tile ≡ b.tile
    one = finds_one t f x y a.tile b.tile a.finds b.finds

    same : m ≡ n
    same = counts_one t f (side_of side) b.tile b.finds.used m n (subst (λ i. Counts t (side_of side) i m) one a.counts) b.counts

    lists : m ≤ length old → Lists t (side_of side) b.tile old mid
    lists h = subst (λ i. Lists t (side_of side) i old mid) one (a.lists h)

-- ---- the directed order

over_twice : (w old : List ℤ) → over w (over w old) ≡ over w old
unfolding over
over_twice [] old = refl
over_twice (x ∷ w) [] = refl
over_twice (x ∷ w) (o ∷ old) = ap (λ l. x ∷ l) (over_twice w old)

writes_twice : (t : List ℤ) → Forms t → (A : Area) (old mid new : List ℤ) (m n : ℕ) → WritesArea t A old mid m → WritesArea t A mid new n → WritesArea t A old new n
writes_twice t f A old mid new m n a b =
    let e = directed_one t f A a.list b.list a.is b.is in
    let k : mid ≡ over (words b.list) old = a.content ∙ ap (λ l. over (words l) old) e in
    record { list = b.list; is = b.is; count = b.count; content = b.content ∙ ap (over (words b.list)) k ∙ over_twice (words b.list) old }

pub area_twice : (t : List ℤ) → Forms t → (A : Area) (old mid new : List ℤ) (m n : ℕ) → AreaListed t A old mid m → AreaListed t A mid new n → AreaListed t A old new n
area_twice t f A old mid new m n a b = lt_cases (length old) n
    (λ h. let k = a.short (omega (arith, same)) in record {
      counts = b.counts;
      short = λ _. b.short (omega (arith, ap length k)) ∙ k;
      lists = λ g. absurd (omega arith);
    })
    (λ h.
    let u = a.lists (omega (arith, same)) in
    let l : length mid ≡ length old = ap length u.content ∙ over_length (words u.list) old in
    record {
      counts = b.counts;
      short = λ g. absurd (omega arith);
      lists = λ g. writes_twice t f A old mid new m n u (b.lists (omega arith));
    })
  where
    same : m ≡ n
    same = counts_area_one t f A m n a.counts b.counts

-- ---- saved layouts

drop_front : (a b : List ℕ) (n : ℕ) → n ≡ length a → drop n (a ++ b) ≡ b
drop_front a b n e = ap (λ n. drop n (a ++ b)) e ∙ go a
  where
    go : (a : List ℕ) → drop (length a) (a ++ b) ≡ b
    go [] = refl
    go (x ∷ a) = go a

pub saves_twice : (t : List ℤ) (old mid new : List ℕ) (m n : ℕ) → Saves t old mid m → Saves t mid new n → Saves t old new n
saves_twice t old mid new m n a b = record {
  solids = b.solids;
  lists = b.lists;
  number = b.number;
  writes = b.writes ∙ ap (λ l. file_bytes (map (saved_of t) b.solids) ++ l) rest;
}
  where
    one : length a.solids ≡ length b.solids
    one = ap length (one_order t a.solids b.solids a.lists b.lists)

    whole : n ≡ length (file_bytes (map (saved_of t) a.solids))
    whole = omega (arith, b.number, one, file_length (map (saved_of t) a.solids), length-map a.solids (saved_of t))

    rest : drop n mid ≡ drop n old
    rest =
        let e : m ≡ n = omega (arith, a.number, b.number, one) in
        ap (drop n) a.writes ∙ drop_front (file_bytes (map (saved_of t) a.solids)) (drop m old) n whole ∙ ap (λ k. drop k old) e

-- ---- area search: what its answer says, by its case

pub sees_free : (t : List ℤ) (A : Area) (k : ℕ) → Sees t A k → records_of t ≤ k → FreeArea t A
sees_free t A k (Sees.nothing f e) h = f
sees_free t A k (Sees.solid x y f) h = absurd (omega (arith, f.solid.below))

pub record Blocked (t : List ℤ) (A : Area) (k : ℕ) : Type 0 where
  pub x : ℕ
  pub y : ℕ
  pub first : First t A x y k

pub sees_solid : (t : List ℤ) (A : Area) (k : ℕ) → Sees t A k → k < records_of t → Blocked t A k
sees_solid t A k (Sees.nothing f e) h = absurd (omega arith)
sees_solid t A k (Sees.solid x y f) h = record { x = x; y = y; first = f }
