-- What one turn of the loop writes, and that it goes on with the report. Assumes nothing.
use Rattle.std.specs.Prelude.{◌≡◌, List, ℤ, ℕ, ◌+◌, ◌*◌, ◌<◌, min, max, Float, length, get_or, set}
use Rattle.std.proofs.Common.{sym, ap, ap₂, ◌∙◌, subst, arith, take, length-set, get_or-set_same, get_or-set_other}
use Rattle.std.specs.Float.Ieee as Ieee
use Rattle.std.specs.Float.{nan}
use Rattle.geometry.specs.Cases.{lt_cases}
use Rattle.seek.specs.Meaning.{Area}
use Rattle.density.specs.Meaning.{windows_of, count_of}
use Rattle.density.specs.Shares.{float, share_of}
use Rattle.density.specs.Report.{Written}
use Rattle.density.specs.Summing.{sum_next}
use Rattle.density.specs.Reporting.{Reporting, least_next, most_next}
use Rattle.density.specs.Tallying.{Ready, tally_one, tally_in, tally_back}

pub written_on : (t : List ℤ) (A : Area) (w h : ℕ) (old new : List Float) (n c : ℕ) (s : Float) → Written t A w h old new n → n < length new
    → c ≡ count_of t A w h n → s ≡ share_of c (w * h) → Written t A w h old (set new n s) (n + 1)
written_on t A w h old new n c s r l e d = record {
  long = length-set new n s ∙ r.long;
  shares = λ m k.
      lt_cases m n (λ b. get_or-set_other new n m s (float 0) (λ q. omega arith) ∙ r.shares m b)
      (λ b.
      let q : m ≡ n = omega arith in
      subst (λ m. get_or (set new n s) m (float 0) ≡ share_of (count_of t A w h m) (w * h)) (sym q)
      (get_or-set_same new n s (float 0) l ∙ d ∙ ap (λ c. share_of c (w * h)) e));
  rest = λ m k. get_or-set_other new n m s (float 0) (λ q. omega arith) ∙ r.rest m (omega arith);
}

pub report_on : (t : List ℤ) (A : Area) (w h : ℕ) (old new : List Float) (n lowest highest total c : ℕ) (s : Float)
    → Reporting t A w h old new n lowest highest total → n < windows_of A w h → n < length new → c ≡ count_of t A w h n
    → s ≡ share_of c (w * h)
    → Reporting t A w h old (set new n s) (n + 1) (min lowest c) (max highest c) (total + c)
report_on t A w h old new n lowest highest total c s r l b e d = record {
  to = omega arith;
  written = written_on t A w h old new n c s r.written b e d;
  lowest = ap₂ min r.lowest e ∙ sym (least_next n (w * h) (count_of t A w h));
  highest = ap₂ max r.highest e ∙ sym (most_next n (count_of t A w h));
  total = ap₂ ◌+◌ r.total e ∙ sym (sum_next n (count_of t A w h));
}

pub tally_on : (t : List ℤ) (A : Area) (w h many : ℕ) (out new : List Float) (n low high sum : ℕ) (s : Float)
    → Ready t A w h many out → Reporting t A w h (take many out) new n low high sum → n < length (take many out)
    → let c = Ieee.to_unsigned 64 (get_or new n nan) in s ≡ share_of c (w * h)
    → Reporting t A w h (take many out) (set new n s) (n + 1) (min low c) (max high c) (sum + c)
tally_on t A w h many out new n low high sum s r d l e =
    report_on t A w h (take many out) new n low high sum (Ieee.to_unsigned 64 (get_or new n nan)) s d
    (tally_one t A w h many out new n low high sum r d l) (tally_in t A w h many out new n low high sum r d l)
    (tally_back t A w h many out new n low high sum r d l).1 e
