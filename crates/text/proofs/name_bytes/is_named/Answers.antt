-- `is_named` meets its contract.
use Rattle.std.proofs.Common.{Bool, ◌&&◌, eqb, length, take, drop, sym, ap, ◌∙◌, List, ℕ}
use Rattle.text_spec.specs.Lists.{same_bytes}
use Rattle.text_spec.specs.Scans.{name_in}
use Rattle.text.specs.name_bytes.Naming.{slices-same, named-start}
use Rattle.text.proofs.name_bytes.is_named.Goals as goal

pub returns-then-starts_with : goal.returns-then-starts_with
returns-then-starts_with c =
    let n = c.args.name.now in
    let rest = c.rest_at-rest.result.now in
    let starts = sym (slices-same n (take (length n) rest)) ∙ sym c.starts_with.ensures.value ∙ c.if-starts_with.true in
    c.ends_at.ensures ∙ sym (ap (λ (t : Bool). t && eqb (length (name_in (drop (length n) rest))) 0) starts) ∙ sym (named-start n rest c.requires) ∙ ap (λ (l : List ℕ). same_bytes n (name_in l)) c.rest_at-rest.ensures

pub returns-else-starts_with : goal.returns-else-starts_with
returns-else-starts_with c =
    let n = c.args.name.now in
    let rest = c.rest_at-rest.result.now in
    let starts = sym (slices-same n (take (length n) rest)) ∙ sym c.starts_with.ensures.value ∙ c.if-starts_with.false in
    c.if-starts_with.false
    ∙ sym (ap (λ (t : Bool). t && eqb (length (name_in (drop (length n) rest))) 0) starts) ∙ sym (named-start n rest c.requires) ∙ ap (λ (l : List ℕ). same_bytes n (name_in l)) c.rest_at-rest.ensures
