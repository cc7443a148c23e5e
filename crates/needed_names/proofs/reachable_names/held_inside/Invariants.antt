-- `held_inside`: the images that the loop has passed are cut.
use Rattle.std.proofs.Common.{◌≡◌, length}
use Rattle.names.specs.Sets.{nothing}
use Rattle.needed_names.specs.reachable_names.Images.{ImageInside}
use Rattle.text_laws.specs.Loops.{Passed}
use Rattle.text_spec.specs.Limits.{max_declarations}
use Rattle.needed_names.proofs.reachable_names.held_inside.Given as goal

abbrev pub invariant-loop-a : goal.invariant-loop-a
invariant-loop-a l = (length l.images ≡ max_declarations) × Passed (ImageInside l.initial.images l.m) nothing l.initial.images l.a l.images
