-- Which areas become rectangles: those that RECT does not refuse. Assumes nothing.
use Rattle.std.specs.Prelude.{◌≡◌, MatchOption, Option}
use Rattle.seek.specs.declared.rect.Rect.{Rect}
use Rattle.seek.specs.Meaning.{Area, RectRight}
use Rattle.seek.specs.Enumerate.{area_of}

-- Some has the area's edges; None refuses an area that is not right
abbrev pub Passes : Area → Option Rect → Type 0
Passes A r = MatchOption r (RectRight A → ⊥) (λ r. area_of r.area ≡ A)
