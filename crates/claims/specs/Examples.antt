-- 01's starred examples, with the cells that 02 adds, as one table: each entry is a call, the solids that its table draws, and what 01 says it gives. An entry is claimed of every table
-- that draws those solids, in whatever records, and of every answer that the call's promise allows. `examples_hold` of ExamplesHold proves all of them.
-- Assumes nothing.
use Rattle.std.specs.Prelude.{◌≡◌, List, [], ◌∷◌, ◌++◌, map, ℕ, ◌+◌, ◌≤◌, ◌<◌, ℤ, pos, length}
use Rattle.ruler.specs.Ruler.{ruler}
use Rattle.geometry.specs.Picture.{ZERO, Tile}
use Rattle.table.specs.Words.{TR, RT, BL, LB, records_of, num, tile_of}
use Rattle.table.specs.Sound.{SizeRight, UsedIn, capacity, spaces_in, SolidIn}
use Rattle.seek.specs.Meaning.{Area}
use Rattle.ushanderi.specs.Answers.{DONE, POINT, OCCUPIED, FULL, SPACE, answered, accepted, refused, nothing, without_cell}
use Rattle.ushanderi.specs.declared.answer.Answer.{Answer}
use Rattle.ushanderi.specs.declared.answer.MetAnswer.{MetAnswer}
use Rattle.ushanderi.specs.Edits.{drawn}
use Rattle.ushanderi.specs.Promises.{FreshSays, FindSays, listed, NeighboursSays, SearchSays, EnumerateSays, CreateSays, DeleteSays}
use Rattle.claims.specs.Drawing.{space, area, neg, E, -E, A, B, C, Draws, area_of}

-- ---- answers, with records read as tiles

-- the answer's value is a record of t, the tile v
pub record Answers (t : List ℤ) (number : ℕ) (v : Tile) (a : Answer) : Type 0 where
  pub at : ℕ
  pub is : a ≡ answered number at
  pub used : UsedIn t at
  pub tile : tile_of t at ≡ v

-- and where an answer has a cell: it is (x, y)
pub record AnswersAt (t : List ℤ) (number : ℕ) (v : Tile) (x y : ℤ) (a : MetAnswer) : Type 0 where
  pub tile : Answers t number v (record { number = a.number; value = a.value })
  pub column : a.x ≡ x
  pub row : a.y ≡ y

-- the lent list begins with the records of t that are the tiles vs, in that order, and keeps its other entries
pub record Lends (t : List ℤ) (vs : List Tile) (out out' : List ℤ) (a : Answer) : Type 0 where
  pub records : List ℕ
  pub tiles : map (tile_of t) records ≡ vs
  pub is : a ≡ accepted (length vs)
  pub written : out' ≡ listed records out

-- the stitch word names a record of t, the tile v
pub record Names (t : List ℤ) (word : ℕ) (v : Tile) : Type 0 where
  pub at : ℕ
  pub is : word ≡ ZERO + at
  pub used : UsedIn t at
  pub tile : tile_of t at ≡ v

pub record Stitches (t : List ℤ) (i : ℕ) (right over left under : Tile) : Type 0 where
  pub tr : Names t (num t i TR) right
  pub rt : Names t (num t i RT) over
  pub bl : Names t (num t i BL) left
  pub lb : Names t (num t i LB) under

-- a table that draws S and has n space tiles
pub record Pictures (t : List ℤ) (S : List Tile) (n : ℕ) : Type 0 where
  pub draws : Draws t S
  pub spaces : spaces_in t ≡ n

-- ---- the kinds of entry

pub data Example : Type 0 where
  -- S has n space tiles
  spaces : (S : List Tile) (n : ℕ) → Example
  -- the stitches of the solid v
  stitches : (S : List Tile) (v tr rt bl lb : Tile) → Example
  -- find: the tile at the cell, or POINT
  found : (S : List Tile) (x y : ℤ) (v : Tile) → Example
  outside : (S : List Tile) (x y : ℤ) → Example
  -- area search: the solid and the cell where it is met, or free
  searched : (S : List Tile) (A : Area) (v : Tile) (x y : ℤ) → Example
  free : (S : List Tile) (A : Area) → Example
  -- neighbours of the tile at the cell, and enumerate, into a list that is long enough
  neighbours : (S : List Tile) (x y : ℤ) (side : ℕ) (vs : List Tile) → Example
  enumerated : (S : List Tile) (A : Area) (vs : List Tile) → Example
  -- create: refused by the solid v at the cell, or done with n space tiles then, where the table takes one solid more
  occupied : (S : List Tile) (A : Area) (label : ℕ) (v : Tile) (x y : ℤ) → Example
  created : (S : List Tile) (A : Area) (label n : ℕ) → Example
  -- delete: the label, and the solids S' and n space tiles then, or SPACE
  deleted : (S : List Tile) (x y : ℤ) (label : ℕ) (S' : List Tile) (n : ℕ) → Example
  at_space : (S : List Tile) (x y : ℤ) → Example
  -- a fresh plane draws nothing
  fresh : Example
  -- a fresh plane of 20 records: v is done, w is FULL; delete at the cell gives the label; w is done
  refilled : (v w : Tile) (x y : ℤ) (label : ℕ) → Example

-- what that chain of calls gives
pub record Refilled (t₁ t₂ t₄ : List ℤ) (v w : Tile) (label : ℕ) (a₁ a₂ : MetAnswer) (a₃ : Answer) (a₄ : MetAnswer) : Type 0 where
  pub first : AnswersAt t₁ DONE v (pos 0) (pos 0) a₁
  pub second : (a₂ ≡ without_cell (refused FULL)) × (t₂ ≡ t₁)
  pub third : a₃ ≡ accepted label
  pub fourth : AnswersAt t₄ DONE w (pos 0) (pos 0) a₄
  pub after : Draws t₄ (w ∷ [])

abbrev pub holds : Example → Type 0
holds (spaces S n) = (t : List ℤ) → Draws t S → spaces_in t ≡ n
holds (stitches S v tr rt bl lb) = (t : List ℤ) → Draws t S → (i : ℕ) → SolidIn t i → tile_of t i ≡ v → Stitches t i tr rt bl lb
holds (found S x y v) = (t : List ℤ) → Draws t S → (a : Answer) → FindSays t (ruler x) (ruler y) a → Answers t DONE v a
holds (outside S x y) = (t : List ℤ) → Draws t S → (a : Answer) → FindSays t (ruler x) (ruler y) a → a ≡ refused POINT
holds (searched S A v x y) = (t : List ℤ) → Draws t S → (a : MetAnswer) → SearchSays t A a → AnswersAt t DONE v x y a
holds (free S A) = (t : List ℤ) → Draws t S → (a : MetAnswer) → SearchSays t A a → a ≡ without_cell nothing
holds (neighbours S x y side vs) =
    (t : List ℤ) → Draws t S → (out out' : List ℤ) → length vs ≤ length out → (a : Answer) → NeighboursSays t (ruler x) (ruler y) (pos side) out out' a
    → Lends t vs out out' a
holds (enumerated S A vs) =
    (t : List ℤ) → Draws t S → (out out' : List ℤ) → length vs ≤ length out → (a : Answer) → EnumerateSays t A out out' a → Lends t vs out out' a
holds (occupied S A label v x y) =
    (t : List ℤ) → Draws t S → (t' : List ℤ) (a : MetAnswer) → CreateSays t A (ruler (pos label)) t' a → AnswersAt t OCCUPIED v x y a × (t' ≡ t)
holds (created S A label n) =
    (t : List ℤ) → Draws t S → length S < capacity (records_of t) → (t' : List ℤ) (a : MetAnswer) → CreateSays t A (ruler (pos label)) t' a
    → AnswersAt t' DONE (drawn A (ruler (pos label))) (pos 0) (pos 0) a × Pictures t' (S ++ drawn A (ruler (pos label)) ∷ []) n
holds (deleted S x y label S' n) =
    (t : List ℤ) → Draws t S → (t' : List ℤ) (a : Answer) → DeleteSays t (ruler x) (ruler y) t' a → (a ≡ accepted label) × Pictures t' S' n
holds (at_space S x y) =
    (t : List ℤ) → Draws t S → (t' : List ℤ) (a : Answer) → DeleteSays t (ruler x) (ruler y) t' a → (a ≡ refused SPACE) × (t' ≡ t)
holds fresh = (t t' : List ℤ) (a : Answer) → SizeRight t → FreshSays t t' a → (a ≡ accepted 0) × Draws t' []
holds (refilled v w x y label) =
    (t t₀ t₁ t₂ t₃ t₄ : List ℤ) (a : Answer) (a₁ a₂ : MetAnswer) (a₃ : Answer) (a₄ : MetAnswer) → SizeRight t → records_of t ≡ 20 → FreshSays t t₀ a
    → CreateSays t₀ (area_of v) v.paint.label t₁ a₁ → CreateSays t₁ (area_of w) w.paint.label t₂ a₂ → DeleteSays t₂ (ruler x) (ruler y) t₃ a₃
    → CreateSays t₃ (area_of w) w.paint.label t₄ a₄ → Refilled t₁ t₂ t₄ v w label a₁ a₂ a₃ a₄

infixr 5 ◌and◌
-- every entry of the table holds
pub data AllHold : List Example → Type 0 where
  end : AllHold []
  ◌and◌ : {e : Example} {es : List Example} → holds e → AllHold es → AllHold (e ∷ es)

-- ---- the examples, in 01's order

abbrev pub ABC : List Tile
ABC = A ∷ B ∷ C ∷ []

-- the space tiles of A, B and C that the examples name
abbrev pub bottom_strip : Tile
bottom_strip = space -E -E E (pos 0)

abbrev pub left_of_a : Tile
left_of_a = space -E (pos 0) (pos 0) (pos 10)

abbrev pub gap : Tile
gap = space (pos 10) (pos 0) (pos 20) (pos 10)

abbrev pub right_of_b : Tile
right_of_b = space (pos 30) (pos 0) E (pos 10)

abbrev pub strip10to15 : Tile
strip10to15 = space -E (pos 10) E (pos 15)

abbrev pub left_of_c : Tile
left_of_c = space -E (pos 15) (pos 5) (pos 20)

abbrev pub right_of_c : Tile
right_of_c = space (pos 25) (pos 15) E (pos 20)

abbrev pub top_strip : Tile
top_strip = space -E (pos 20) E E

abbrev pub examples : List Example
examples =
    -- A alone: 4 space tiles; A's stitches: tr the right space, rt the top strip, bl the left space, lb the bottom strip.
    spaces (A ∷ []) 4
    ∷ stitches (A ∷ []) A (space (pos 10) (pos 0) E (pos 10)) (space -E (pos 10) E E) left_of_a bottom_strip
    -- A and B: 5 space tiles. A, B, C: 8.
    ∷ spaces (A ∷ B ∷ []) 5
    ∷ spaces ABC 8
    -- With A, B, C: cell (9, 9) is A, (10, 5) is the gap 10 0 20 10, (0, 0) is A.
    ∷ found ABC (pos 9) (pos 9) A
    ∷ found ABC (pos 10) (pos 5) gap
    ∷ found ABC (pos 0) (pos 0) A
    -- (E, 0) is POINT; (E - 1, E - 1) is found.
    ∷ outside ABC E (pos 0)
    ∷ found ABC (pos 16777215) (pos 16777215) top_strip
    -- Create 9 3 12 4 label 4: OCCUPIED by A, at (9, 3). Create 10 0 20 10 label 4: done, 7 space tiles with A, B, C.
    ∷ occupied ABC (area (pos 9) (pos 3) (pos 12) (pos 4)) 4 A (pos 9) (pos 3)
    ∷ created ABC (area (pos 10) (pos 0) (pos 20) (pos 10)) 4 7
    -- Search 10 0 20 10: free. Search 5 0 25 20: C, at (5, 19). Search 0 0 30 15: A, at (0, 9).
    ∷ free ABC (area (pos 10) (pos 0) (pos 20) (pos 10))
    ∷ searched ABC (area (pos 5) (pos 0) (pos 25) (pos 20)) C (pos 5) (pos 19)
    ∷ searched ABC (area (pos 0) (pos 0) (pos 30) (pos 15)) A (pos 0) (pos 9)
    -- Top neighbours of the bottom strip: right space, B, gap, A, left space.
    ∷ neighbours ABC (pos 0) (neg 1) 2 (right_of_b ∷ B ∷ gap ∷ A ∷ left_of_a ∷ [])
    -- Enumerate -5 0 35 20: left of C, C, right of C, strip 10 to 15, left of A, A, gap, B, right of B.
    ∷ enumerated ABC (area (neg 5) (pos 0) (pos 35) (pos 20)) (left_of_c ∷ C ∷ right_of_c ∷ strip10to15 ∷ left_of_a ∷ A ∷ gap ∷ B ∷ right_of_b ∷ [])
    -- Enumerate 5 2 25 8: A, gap, B.
    ∷ enumerated ABC (area (pos 5) (pos 2) (pos 25) (pos 8)) (A ∷ gap ∷ B ∷ [])
    -- Delete at (12, 17): label 3, 5 space tiles. Delete at (15, 5): SPACE.
    ∷ deleted ABC (pos 12) (pos 17) 3 (A ∷ B ∷ []) 5
    ∷ at_space ABC (pos 15) (pos 5)
    -- 20 records: A, then B is FULL; delete A; B is done.
    ∷ refilled A B (pos 0) (pos 0) 1
    -- Create -E -E E E on a fresh plane: done, no space tile left.
    ∷ fresh
    ∷ created [] (area -E -E E E) 1 0
    ∷ []
