-- Agreement, call by call: two answers that a promise allows for the same table and arguments are equal, and so is what they leave. Where 01 leaves open
-- which records a create or a load gives to new solids, and which a create, delete or load gives to space tiles, the tables agree but for these numbers.
-- Assumes nothing.
use Rattle.std.specs.Prelude.{◌≡◌, List, ℕ, ℤ, Float}
use Rattle.table.specs.View.{Places, Slice, IsPart}
use Rattle.seek.specs.Meaning.{Area}
use Rattle.ushanderi.specs.declared.answer.Answer.{Answer}
use Rattle.ushanderi.specs.declared.answer.MetAnswer.{MetAnswer}
use Rattle.ushanderi.specs.declared.reports.DensityAnswer.{DensityAnswer}
use Rattle.ushanderi.specs.Promises.{Fit, FreshSays, CheckSays, ViewSays, FindSays, NeighboursSays, SearchSays, EnumerateSays, DensitySays, CreateSays, DeleteSays, SaveSays, LoadSays}
use Rattle.claims.specs.Terms.{SamePicture, SameTiles, CreateAgrees, DeleteAgrees, LoadAgrees}

pub record Agreement : Type 0 where
  pub fresh : (t u v : List ℤ) (a b : Answer) → FreshSays t u a → FreshSays t v b → (a ≡ b) × (u ≡ v)
  pub check : (t : List ℤ) (a b : Answer) → CheckSays t a → CheckSays t b → a ≡ b
  pub view : (lent : Slice) (index : ℤ) (p q : Slice) → ViewSays lent index p → ViewSays lent index q → (p.ref_ptr ≡ q.ref_ptr) × (p.now ≡ q.now)
  -- the place that the C name gives for a part, and that view's part lies there
  pub place : (t : List ℤ) (index : ℤ) (at len at' len' : ℕ) → Places t index at len → Places t index at' len' → (at ≡ at') × (len ≡ len')
  pub placed : (lent : Slice) (index : ℤ) (part : Slice) (at len : ℕ) → ViewSays lent index part → Places lent.now index at len → IsPart lent at len part
  pub find : (t : List ℤ) (x y : ℕ) (a b : Answer) → FindSays t x y a → FindSays t x y b → a ≡ b
  pub neighbours : (t : List ℤ) (x y : ℕ) (side : ℤ) (out u v : List ℤ) (a b : Answer)
      → NeighboursSays t x y side out u a → NeighboursSays t x y side out v b → (a ≡ b) × (u ≡ v)
  pub search : (t : List ℤ) (A : Area) (a b : MetAnswer) → SearchSays t A a → SearchSays t A b → a ≡ b
  pub enumerate : (t : List ℤ) (A : Area) (out u v : List ℤ) (a b : Answer)
      → EnumerateSays t A out u a → EnumerateSays t A out v b → (a ≡ b) × (u ≡ v)
  pub density : (t : List ℤ) (A : Area) (w h : ℕ) (out u v : List Float) (a b : DensityAnswer)
      → DensitySays t A w h out u a → DensitySays t A w h out v b → (a ≡ b) × (u ≡ v)
  pub create : (t : List ℤ) (A : Area) (label : ℕ) (u v : List ℤ) (a b : MetAnswer)
      → CreateSays t A label u a → CreateSays t A label v b → CreateAgrees t u v a b
  pub delete : (t : List ℤ) (x y : ℕ) (u v : List ℤ) (a b : Answer) → DeleteSays t x y u a → DeleteSays t x y v b → DeleteAgrees u v a b
  pub save : (t : List ℤ) (out u v : List ℕ) (a b : Answer) → SaveSays t out u a → SaveSays t out v b → (a ≡ b) × (u ≡ v)
  pub load : (t : List ℤ) (bs : List ℕ) (u v : List ℤ) (a b : MetAnswer) → LoadSays t bs u a → LoadSays t bs v b → LoadAgrees u v a b
  -- the solids settle the space rectangles
  pub space : (u v : List ℤ) → Fit u → Fit v → SamePicture u v → SameTiles u v
