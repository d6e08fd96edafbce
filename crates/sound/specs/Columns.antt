-- The walk down a column of cells by lb: from a tile that holds a cell of it, every tile met begins at that column, down to a floor. Assumes nothing.
use Rattle.std.specs.Prelude.{◌≡◌, Bool, true, false, List, ℕ, ◌-◌, ◌≤◌, ◌<◌, T, ℤ}
use Rattle.std.proofs.Common.{arith}
use Rattle.geometry.specs.Cases.{lt_cases}
use Rattle.geometry.specs.Picture.{LOW, SPACE, SOLID, Has}
use Rattle.table.specs.Words.{LEFT, BOTTOM, TOP, LB, KIND, num, tile_of}
use Rattle.table.specs.Sound.{UsedIn}
use Rattle.table.specs.Forms.{link}
use Rattle.sound.specs.Links.{Ready, ready_formed, named_at}

-- tile k begins at x, and is solid where what ends at x is of kind space
pub record Fit (t : List ℤ) (x of k : ℕ) : Type 0 where
  pub left : num t k LEFT ≡ x
  pub kind : of ≡ SPACE → num t k KIND ≡ SOLID

-- some such tile holds the cell (x, y)
pub record Lined (t : List ℤ) (x of y : ℕ) : Type 0 where
  pub tile : ℕ
  pub used : UsedIn t tile
  pub has : Has (tile_of t tile) x y
  pub fit : Fit t x of tile

-- the cells of column x from the floor to below the row y₀, and the tiles that hold one of them
abbrev pub Rows : List ℤ → ℕ → ℕ → ℕ → ℕ → Type 0
Rows t x of floor y₀ = (y : ℕ) → floor ≤ y → y < y₀ → Lined t x of y

abbrev pub AllFit : List ℤ → ℕ → ℕ → ℕ → ℕ → Type 0
AllFit t x of floor y₀ = (m y : ℕ) → UsedIn t m → Has (tile_of t m) x y → floor ≤ y → y < y₀ → Fit t x of m

pub record Meets (t : List ℤ) (x floor y₀ k : ℕ) : Type 0 where
  pub row : ℕ
  pub from : floor ≤ row
  pub to : row < y₀
  pub has : Has (tile_of t k) x row

-- The walk from k says yes only if all rows below k's top are lined, and says yes wherever every tile of the column fits.
pub record Column (t : List ℤ) (k x of floor : ℕ) (r : Bool) : Type 0 where
  pub lined : T r → Rows t x of floor (num t k TOP)
  pub passes : (y₀ : ℕ) → Meets t x floor y₀ k → AllFit t x of floor y₀ → T r

-- the walk from k has come to the tile `at`
pub record Walked (t : List ℤ) (k x of floor at : ℕ) : Type 0 where
  pub used : UsedIn t at
  pub lined : Rows t x of floor (num t at TOP) → Rows t x of floor (num t k TOP)
  pub meets : (y₀ : ℕ) → Meets t x floor y₀ k → AllFit t x of floor y₀ → Meets t x floor y₀ at

-- what lies directly below a tile above the floor
module _ (t : List ℤ) (floor at next : ℕ) (g : Ready t) (u : UsedIn t at) (h : LOW ≤ floor) (o : floor < num t at BOTTOM) (e : next ≡ link (num t at LB)) where
  below : UsedIn t next × Has (tile_of t next) (num t at LEFT) (num t at BOTTOM - 1)
  below = let f = ready_formed t at g u in named_at t (num t at LB) _ _ next g.size.most e ((g.stitched at u).lb.inside (omega arith))

  pub falls : num t next BOTTOM < num t at BOTTOM
  falls = let n = below.1 in omega arith

module _ (t : List ℤ) (k x of floor : ℕ) where
  pub walk_start : UsedIn t k → Walked t k x of floor k
  walk_start u = record { used = u; lined = λ f. f; meets = λ y₀ m a. m }

  here : (at y : ℕ) → Ready t → UsedIn t at → Fit t x of at → num t at BOTTOM ≤ y → y < num t at TOP → Lined t x of y
  here at y g u f h l = let w = ready_formed t at g u in record { tile = at; used = u; has = omega arith; fit = f }

  pub walk_on : (at next : ℕ) → Ready t → Walked t k x of floor at → Fit t x of at → LOW ≤ floor → floor < num t at BOTTOM → next ≡ link (num t at LB)
      → Walked t k x of floor next
  walk_on at next g d f h o e =
      let (u, n) = below t floor at next g d.used h o e in
      record {
        used = u;
        lined = λ rest. d.lined (λ y p q. lt_cases y (num t at BOTTOM) (λ l. rest y p (omega arith)) (λ l. here at y g d.used f l q));
        meets = λ y₀ m a. let v = d.meets y₀ m a in record { row = num t at BOTTOM - 1; from = omega arith; to = omega arith; has = omega arith };
      }

  pub walk_ends : (at : ℕ) → Ready t → Walked t k x of floor at → Fit t x of at → num t at BOTTOM ≤ floor → Column t k x of floor true
  walk_ends at g w f o = record { lined = λ _. w.lined (λ y p q. here at y g w.used f (omega arith) q); passes = λ y₀ m a. tt }

  pub walk_stops : (at : ℕ) → Walked t k x of floor at → (Fit t x of at → ⊥) → Column t k x of floor false
  walk_stops at w n = record {
    lined = λ b. absurd b;
    passes = λ y₀ m a. let v = w.meets y₀ m a in n (a at v.row w.used v.has v.from v.to);
  }
