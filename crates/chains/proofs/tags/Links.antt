-- A link written: `/`, then the element's name or `text()`.
use mathlib.Core.List.{List, ◌++◌}
use mathlib.Core.Logic.{⊎_elim}
use mathlib.Core.Path.{◌≡◌, sym, ap, ◌∙◌}
use Prim.Native.Nat.{ℕ, ◌+◌, ◌-◌, ◌≤◌, ◌<◌}
use native.Mathlib.Numerals.{add-one}
use native.Mathlib.Omega.{arith}
use lib.ListN.{length, get_or, set, take, drop, length-set, length-take}
use lib.Seq.{sets}
use Rattle.cells.specs.written_text.Written.{WrittenAt}
use Rattle.chains.specs.tags.Chains.{link_at, LinkPass, link-size-element, link-size-text, link-element, link-text}
use Rattle.text_laws.specs.Searches.{below-or-past}
use Rattle.text_spec.specs.Limits.{max_declarations}
use Rattle.text_spec.specs.Lists.{bytes, part}

-- `/`, and some bytes behind it
slash-first : (was w link : List ℕ) (at : ℕ) {n : ℕ} {out : List ℕ} → link ≡ bytes "/" ++ w → WrittenAt (set was at 0x2F) (at + 1) w n out → (n ≡ at + length link) × (out ≡ sets was at link)
slash-first was w link at e h = (
  omega (arith, h.after, ap length e),
  h.cells ∙ ap (λ (k : ℕ). sets (set was at 0x2F) k w) (add-one at) ∙ ap (sets was at) (sym e),
)

module _ (text starts sizes : List ℕ) (c : ℕ) (was : List ℕ) (at : ℕ) (h : LinkPass text starts sizes c was at) where
  abbrev start : ℕ
  start = get_or starts c 0

  abbrev size : ℕ
  size = get_or sizes c 0

  -- the element's name as a part of the text
  abbrev name : List ℕ
  name = take (start + size - start) (drop start text)

  name-is : name ≡ part start size text
  name-is = let e : start + size - start ≡ size = omega arith in ap (λ (k : ℕ). take k (drop start text)) e

  module _ (l : c < max_declarations) where
    pub element-fits : (start + size ≤ length text) × (at + 1 + size ≤ length was)
    element-fits = (h.named.inside c l, omega (arith, h.room, link-size-element sizes c l))

    pub element-room : at + 1 + length name ≤ length (set was at 0x2F)
    element-room = omega (arith, element-fits.0, element-fits.1, length-set was at 0x2F, length-take (start + size - start) (drop start text))

    pub element-written : {n : ℕ} {out : List ℕ} → WrittenAt (set was at 0x2F) (at + 1) name n out
        → (n ≡ at + length (link_at text starts sizes c)) × (out ≡ sets was at (link_at text starts sizes c))
    element-written e = slash-first was name _ at (link-element text starts sizes c l ∙ ap (λ (w : List ℕ). bytes "/" ++ w) (sym name-is)) e

  module _ (l : max_declarations ≤ c) where
    pub text-fits : at + 7 ≤ length was
    text-fits = omega (arith, h.room, link-size-text sizes c l)

    pub text-room : at + 1 + 6 ≤ length (set was at 0x2F)
    text-room = omega (arith, text-fits, length-set was at 0x2F)

    pub text-written : {n : ℕ} {out : List ℕ} → WrittenAt (set was at 0x2F) (at + 1) (bytes "text()") n out
        → (n ≡ at + length (link_at text starts sizes c)) × (out ≡ sets was at (link_at text starts sizes c))
    text-written e = slash-first was (bytes "text()") _ at (link-text text starts sizes c l) e

-- there is a cell for `/`
pub slash-room : (text starts sizes : List ℕ) (c : ℕ) (was : List ℕ) (at : ℕ) → LinkPass text starts sizes c was at → at < length was
slash-room text starts sizes c was at h =
    ⊎_elim (λ l. omega (arith, (element-fits text starts sizes c was at h l).1)) (λ l. omega (arith, text-fits text starts sizes c was at h l)) (below-or-past c max_declarations)
