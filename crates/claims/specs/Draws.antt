-- A table draws a list of solids: they are its solids, in whatever records. What an accepted create and an accepted delete make of that. Assumes nothing.
use Rattle.std.specs.Prelude.{◌≡◌, ◌⊎◌, List, [], ◌∷◌, ◌++◌, ℕ, zero, suc, ℤ, length}
use Rattle.std.proofs.Common.{sym, ◌∙◌, subst, ⊎_elim, arith}
use mathlib.Core.List.Memᴰ
use Rattle.geometry.specs.Cases.{eq_cases}
use Rattle.geometry.specs.Picture.{Tile, Has}
use Rattle.table.specs.Words.{KIND, tile_of}
use Rattle.table.specs.Sound.{SizeRight, SolidIn}
use Rattle.table.specs.Fresh.{fresh_table}
use Rattle.table.specs.FreshSound.{OneTile, fresh_one}
use Rattle.seek.specs.Meaning.{FreeCell}
use Rattle.ushanderi.specs.Edits.{Adds, Removes, Edited}
use Rattle.claims.specs.AgreeChecks.{solid_used}
use Rattle.claims.specs.AgreePicture.{shows, tile_once}
use Rattle.claims.specs.AgreeCreate.{edited_fit}
use Rattle.claims.specs.AgreeLoad.{fresh_fit}
use Rattle.claims.specs.History.{Among, Kept}
use Rattle.claims.specs.Terms.{Shows, SamePicture}
use Rattle.claims.specs.Drawing.{Draws}

pub draws_same : (t u : List ℤ) (vs : List Tile) → Draws t vs → Draws u vs → SamePicture t u
draws_same t u vs d e w = (one t u d e w, one u t e d w)
  where
    one : (t u : List ℤ) → Draws t vs → Draws u vs → (w : Tile) → Shows t w → Shows u w
    one t u d e w s = e.all w (subst (λ v. Among vs v) s.is (d.each s.at s.solid))

-- ---- what holds of each of the solids
abbrev pub Every : (Tile → Type 0) → List Tile → Type 0
Every P [] = Unit {0}
Every P (v ∷ vs) = P v × Every P vs

pub every_one : (P : Tile → Type 0) (vs : List Tile) (v : Tile) → Every P vs → Among vs v → P v
every_one P [] v e m = absurd (Memᴰ.not-nil m)
every_one P (w ∷ vs) v e (Memᴰ.head d) = subst P (sym d) e.0
every_one P (w ∷ vs) v e (Memᴰ.tail m) = every_one P vs v e.1 m

pub draws_free : (t : List ℤ) (vs : List Tile) (x y : ℕ) → Draws t vs → Every (λ v. Has v x y → ⊥) vs → FreeCell t x y
draws_free t vs x y d e i s h = every_one (λ v. Has v x y → ⊥) vs (tile_of t i) e (d.each i s) h

-- ---- edits
pub draws_more : (t t' : List ℤ) (vs : List Tile) (k : ℕ) (v : Tile) → Draws t vs → Edited t t' → Adds t t' k v → Draws t' (vs ++ v ∷ [])
draws_more t t' vs k v d e a = record { fit = edited_fit t t' d.fit e; each = each; all = λ w m. all w (Memᴰ.append_cases vs m) }
  where
    each : (i : ℕ) → SolidIn t' i → Among (vs ++ v ∷ []) (tile_of t' i)
    each i s =
        eq_cases i k
        (λ q. Memᴰ.append_right vs (Memᴰ.head (subst (λ j. tile_of t' j ≡ v) (sym q) a.is)))
        (λ n. let o = a.only i s n in Memᴰ.append_left (v ∷ []) (Memᴰ.cast (a.kept i o).1 (d.each i o)))

    all : (w : Tile) → Among vs w ⊎ Among (v ∷ []) w → Shows t' w
    all w = ⊎_elim
        (λ m. let s = d.all w m in let (o, q) = a.kept s.at s.solid in record { at = s.at; solid = o; is = q ∙ s.is })
        (λ m. record { at = k; solid = a.new; is = a.is ∙ sym (Memᴰ.eq_of_singleton m) })

pub draws_less : (t t' : List ℤ) (vs : List Tile) (k : ℕ) (v : Tile) → Draws t (vs ++ v ∷ []) → (Among vs v → ⊥) → Edited t t'
    → Removes t t' k → SolidIn t k → tile_of t k ≡ v → Draws t' vs
draws_less t t' vs k v d n e r s q = record { fit = edited_fit t t' d.fit e; each = each; all = all }
  where
    each : (i : ℕ) → SolidIn t' i → Among vs (tile_of t' i)
    each i u =
        let (o, m) = r.only i u in
        Memᴰ.cast (r.kept i o m).1 (⊎_elim (λ a. a)
        (λ a. absurd (m (tile_once t d.fit i k (solid_used t i o) (solid_used t k s) (Memᴰ.eq_of_singleton a ∙ sym q))))
        (Memᴰ.append_cases vs (d.each i o)))

    all : (w : Tile) → Among vs w → Shows t' w
    all w m =
        let u = d.all w (Memᴰ.append_left (v ∷ []) m) in
        let (o, c) = r.kept u.at u.solid (λ f. n (Memᴰ.cast (sym q ∙ subst (λ j. tile_of t j ≡ w) f u.is) m)) in
        record { at = u.at; solid = o; is = c ∙ u.is }

-- ---- a fresh plane draws nothing
pub fresh_draws : (t : List ℤ) → SizeRight t → Draws (fresh_table (length t)) []
fresh_draws t s = record { fit = fresh_fit t s; each = λ i u. absurd (none i u); all = λ v m. absurd (Memᴰ.not-nil m) }
  where
    one : OneTile (fresh_table (length t))
    one = fresh_one (length t) (omega (arith, s.least))

    none : (i : ℕ) → SolidIn (fresh_table (length t)) i → ⊥
    none zero u = omega (arith, u.kind, one.kind)
    none (suc i) u = omega (arith, u.kind, one.rest i KIND u.below (omega arith))

-- ---- every history draws its account, and the order of a list does not matter
pub draws_by : (t : List ℤ) (S S' : List Tile) → Draws t S → ((v : Tile) → Among S v → Among S' v) → ((v : Tile) → Among S' v → Among S v) → Draws t S'
draws_by t S S' d to from = record { fit = d.fit; each = λ i s. to (tile_of t i) (d.each i s); all = λ v m. d.all v (from v m) }

pub kept_draws : (t : List ℤ) (S : List Tile) → Kept t S → Draws t S
kept_draws t S k = record {
  fit = record { size = k.size; sound = k.sound };
  each = λ i s. (k.solids (tile_of t i)).1 (shows t i s);
  all = λ v m. (k.solids v).0 m;
}
