-- What a density report gives: what a reader must believe. Assumes nothing.
use Rattle.std.specs.Prelude.{◌≡◌, List, ℕ, ◌*◌, ◌≤◌, ◌<◌, ℤ, Float, length, get_or}
use Rattle.geometry.specs.Counting.{sum_to}
use Rattle.seek.specs.Meaning.{Area}
use Rattle.density.specs.Meaning.{windows_of, count_of}
use Rattle.density.specs.Shares.{float, share_of}
use Rattle.density.specs.declared.windows.Report.{Report}

-- m is the least of f 0 .. f (n - 1); it is the greatest
pub record Lowest (f : ℕ → ℕ) (n m : ℕ) : Type 0 where
  pub at : ℕ
  pub below : at < n
  pub is : f at ≡ m
  pub least : (k : ℕ) → k < n → m ≤ f k

pub record Highest (f : ℕ → ℕ) (n m : ℕ) : Type 0 where
  pub at : ℕ
  pub below : at < n
  pub is : f at ≡ m
  pub most : (k : ℕ) → k < n → f k ≤ m

-- the shares of the first n windows are written, and what follows keeps what it held
pub record Written (t : List ℤ) (A : Area) (w h : ℕ) (old new : List Float) (n : ℕ) : Type 0 where
  pub long : length new ≡ length old
  pub shares : (m : ℕ) → m < n → get_or new m (float 0) ≡ share_of (count_of t A w h m) (w * h)
  pub rest : (m : ℕ) → n ≤ m → get_or new m (float 0) ≡ get_or old m (float 0)

-- every window's share, and of all windows the shares of the lowest and of the highest count, and the total
pub record Reports (t : List ℤ) (A : Area) (w h : ℕ) (old new : List Float) (r : Report) : Type 0 where
  pub written : Written t A w h old new (windows_of A w h)
  pub least : ℕ
  pub least_is : Lowest (count_of t A w h) (windows_of A w h) least
  pub lowest : r.lowest ≡ share_of least (w * h)
  pub most : ℕ
  pub most_is : Highest (count_of t A w h) (windows_of A w h) most
  pub highest : r.highest ≡ share_of most (w * h)
  pub total : r.covered ≡ sum_to (windows_of A w h) (count_of t A w h)
