-- What is saved of a solid fits a record of a file. Assumes nothing.
use Rattle.std.specs.Prelude.{◌≡◌, refl, List, [], ◌∷◌, map, ℕ, zero, suc, ◌<◌, ℤ, length, get_or}
use Rattle.std.proofs.Common.{sym, subst, not-suc-le-zero, le_of_suc-le-suc}
use native.Mathlib.Omega.{arith}
use Rattle.std.proofs.lemmas.List.{length-map}
use Rattle.table.specs.Sound.{SolidIn}
use Rattle.table.specs.Forms.{Forms}
use Rattle.seek.specs.Meaning.{Lists}
use Rattle.layout.specs.declared.bytes.Saved.{Saved}
use Rattle.layout.specs.Bytes.{SavedFits, AllFit}
use Rattle.layout.specs.Order.{Comes, saved_of, LabelsFit}
use Rattle.layout.specs.Keys.{solid_formed}

module _ (t : List ℤ) (f : Forms t) (a : LabelsFit t) where
  saved_fits : (i : ℕ) → SolidIn t i → SavedFits (saved_of t i)
  unfolding saved_of
  saved_fits i s = let g = solid_formed t f i s in let l = a i s in omega arith

  pub solids_fit : (ks : List ℕ) → Lists (SolidIn t) (Comes t) ks → AllFit (map (saved_of t) ks)
  solids_fit ks l n d h =
      let k : n < length ks = subst (λ m. n < m) (length-map ks (saved_of t)) h in
      subst SavedFits (sym (at n d ks k)) (saved_fits (get_or ks n 0) (l.each n k))
    where
      -- the default does not matter below the length
      at : (n : ℕ) (d : Saved) (ks : List ℕ) → n < length ks → get_or (map (saved_of t) ks) n d ≡ saved_of t (get_or ks n 0)
      at n d [] h = absurd (not-suc-le-zero h)
      at zero d (k ∷ ks) h = refl
      at (suc n) d (k ∷ ks) h = at n d ks (le_of_suc-le-suc h)
