-- The second pass: the left column, the right side of each tile, and what lies above each space tile. Assumes nothing.
use Rattle.std.specs.Prelude.{Option, Some, None, ◌≡◌, ◌≢◌, ◌↔◌, Bool, true, false, List, ℕ, ◌-◌, ◌≤◌, ◌<◌, T, ℤ}
use Rattle.std.proofs.Common.{sym, arith}
use Rattle.geometry.specs.Picture.{LOW, HIGH, FREE, SPACE, SOLID, Has}
use Rattle.table.specs.Words.{RIGHT, TOP, TR, RT, KIND, num, records_of, tile_of}
use Rattle.table.specs.Sound.{UsedIn}
use Rattle.table.specs.Forms.{Forms, link}
use Rattle.table.specs.Reading.{Reads}
use Rattle.table.specs.declared.Record.{Record}
use Rattle.sound.specs.Records.{has_used}
use Rattle.sound.specs.Links.{Ready, ready_formed, named_at}
use Rattle.sound.specs.Columns.{Rows, Column}
use Rattle.sound.specs.Passed.{Sided, Twin, Unstacked, forms_first, forms_corner, forms_side, forms_unstacked}

-- ---- the left column

-- k is the first record that holds the plane's upper left cell, or past the records if none does
pub record Corner (t : List ℤ) (k : ℕ) : Type 0 where
  pub has : k < records_of t → Has (tile_of t k) LOW (HIGH - 1)
  pub none : (m : ℕ) → m < k → Has (tile_of t m) LOW (HIGH - 1) → ⊥

abbrev pub Corners : List ℤ → Option ℕ → Type 0
Corners t (Some k) = (k < records_of t) × Corner t k
Corners t None = Corner t (records_of t)

pub record LeftColumn (t : List ℤ) (r : Bool) : Type 0 where
  pub rows : T r → Rows t LOW SOLID LOW HIGH
  pub passes : Forms t → T r

pub corner_none : (t : List ℤ) (k : ℕ) → Corner t k → records_of t ≤ k → LeftColumn t false
corner_none t k c h = record {
  rows = λ b. absurd b;
  passes = λ f. let (i, v, l) = forms_corner t f in c.none i (omega arith) v;
}

pub corner_used : (t : List ℤ) (k : ℕ) → Ready t → Corner t k → k < records_of t → UsedIn t k
corner_used t k g c h = record { below = h; used = has_used t k LOW (HIGH - 1) g.well h (c.has h) }

pub corner_column : (t : List ℤ) (k : ℕ) (r : Bool) → Corner t k → k < records_of t → Column t k LOW SOLID LOW r → LeftColumn t r
corner_column t k r c h w =
    let v = c.has h in
    record {
      rows = λ b y p q. w.lined b y p (omega arith);
      passes = λ f. w.passes HIGH (record { row = HIGH - 1; from = omega arith; to = omega arith; has = v }) (forms_first t f);
    }

-- ---- the right side of a tile

pub record Side (t : List ℤ) (i : ℕ) (r : Bool) : Type 0 where
  pub sided : T r → UsedIn t i → Sided t i
  pub passes : Forms t → T r

pub side_edge : (t : List ℤ) (i : ℕ) → HIGH ≤ num t i RIGHT → Side t i true
side_edge t i h = record { sided = λ _ u l. absurd (omega arith); passes = λ _. tt }

column_at : (t : List ℤ) (k x x' of of' floor floor' : ℕ) (r : Bool) → x ≡ x' → of ≡ of' → floor ≡ floor'
    → Column t k x of floor r → Column t k x' of' floor' r
column_at t k x x' of of' floor floor' r q s u h = rw (q, s, u) at h

module _ (t : List ℤ) (i k : ℕ) (v : Record) (g : Ready t) (used : UsedIn t i) (h : Reads t i v) (l : v.right < HIGH) (e : k ≡ link (num t i TR)) where
  beyond : UsedIn t k × Has (tile_of t k) (num t i RIGHT) (num t i TOP - 1)
  beyond = let f = ready_formed t i g used in named_at t (num t i TR) _ _ k g.size.most e ((g.stitched i used).tr.inside (omega arith))

  pub side_start : UsedIn t k × (LOW ≤ v.bottom)
  side_start = let f = ready_formed t i g used in (beyond.0, omega arith)

  pub side_column : (r : Bool) → Column t k v.right v.kind v.bottom r → Side t i r
  side_column r w =
      let m = beyond.1 in
      let f = ready_formed t i g used in
      let c = column_at t k _ _ _ _ _ _ r h.right h.kind h.bottom w in
      record {
        sided = λ b u l y p q. c.lined b y p (omega arith);
        passes = λ s. c.passes (num t i TOP) (record { row = num t i TOP - 1; from = omega arith; to = omega arith; has = m }) (forms_side t s i used);
      }

-- ---- what lies above a space tile

twin_at : (t : List ℤ) (k k' l l' r r' : ℕ) → k ≡ k' → l ≡ l' → r ≡ r' → Twin t k l r → Twin t k' l' r'
twin_at t k k' l l' r r' p q s w = rw (p, q, s) at w

module _ (t : List ℤ) (i k : ℕ) (v : Record) (g : Ready t) (u : UsedIn t i) (h : Reads t i v) (l : v.top < HIGH) (e : k ≡ link (num t i RT)) where
  pub above : k < records_of t
  above = let f = ready_formed t i g u in (named_at t (num t i RT) _ _ k g.size.most e ((g.stitched i u).rt.inside (omega arith))).0.below

  pub twin_of : num t i KIND ≡ SPACE → Twin t k v.left v.right → Unstacked t i → ⊥
  twin_of s w n = n s (omega arith) (twin_at t _ _ _ _ _ _ e h.left h.right w)

  pub of_twin : (Twin t k v.left v.right → ⊥) → Unstacked t i
  of_twin n k o w = n (twin_at t _ _ _ _ _ _ (sym e) (sym h.left) (sym h.right) w)

-- ---- each tile, and all of them

pub record Beside (t : List ℤ) (i : ℕ) (r : Bool) : Type 0 where
  pub sided : T r → UsedIn t i → Sided t i
  pub unstacked : T r → UsedIn t i → Unstacked t i
  pub passes : Forms t → T r

pub space_used : (t : List ℤ) (i : ℕ) → i < records_of t → num t i KIND ≡ SPACE → UsedIn t i
space_used t i b e = record { below = b; used = λ z. omega arith }

pub beside_space : (t : List ℤ) (i : ℕ) (r : Bool) → Ready t → UsedIn t i → Side t i true → T r ↔ Unstacked t i → Beside t i r
beside_space t i r g b s u = record {
  sided = λ _. s.sided tt;
  unstacked = λ h _. u.0 h;
  passes = λ f. u.1 (forms_unstacked t f g i b);
}

pub beside_none : (t : List ℤ) (i : ℕ) → Side t i false → Beside t i false
beside_none t i s = record { sided = λ b. absurd b; unstacked = λ b. absurd b; passes = s.passes }

pub beside_free : (t : List ℤ) (i : ℕ) → num t i KIND ≡ FREE → Beside t i true
beside_free t i e = record { sided = λ _ u. absurd (u.used e); unstacked = λ _ u. absurd (u.used e); passes = λ _. tt }

pub beside_solid : (t : List ℤ) (i : ℕ) (r : Bool) → num t i KIND ≢ SPACE → Side t i r → Beside t i r
beside_solid t i r n s = record { sided = s.sided; unstacked = λ _ _ e. absurd (n e); passes = s.passes }

pub record AllBeside (t : List ℤ) (r : Bool) : Type 0 where
  pub sided : T r → (i : ℕ) → UsedIn t i → Sided t i
  pub unstacked : T r → (i : ℕ) → UsedIn t i → Unstacked t i
  pub passes : Forms t → T r

pub all_beside : (t : List ℤ) → ((i : ℕ) → i < records_of t → Beside t i true) → AllBeside t true
all_beside t a = record {
  sided = λ _ i u. (a i u.below).sided tt u;
  unstacked = λ _ i u. (a i u.below).unstacked tt u;
  passes = λ _. tt;
}

pub not_beside : (t : List ℤ) (i : ℕ) → Beside t i false → AllBeside t false
not_beside t i b = record { sided = λ b. absurd b; unstacked = λ b. absurd b; passes = b.passes }
