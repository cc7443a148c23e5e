-- `content` meets its contract: `(`, `EMPTY` or neither.
use Rattle.std.proofs.Common.{◌≡◌, ◌≤◌, ◌<◌, length, rules}
use Rattle.std.proofs.lemmas.Result.{err_from_is_err_and}
use Rattle.schema.proofs.contents.Contents.{content-end, content-model, content-empty, content-empty-fails, content-not}
use Rattle.schema.specs.particles.ReadingLaws.{kept-same}
use Rattle.text_spec.specs.Scans.{byte_at}
use Rattle.schema.proofs.parsing.Parser.content.Goals as goal

pub returns-in-Some-eq40 : goal.returns-in-Some-eq40
returns-in-Some-eq40 c =
    let l : c.args.at < length c.args.self.now.text.now = search rules in
    let e : byte_at c.args.self.now.text.now c.args.at ≡ 40 = search rules in
    content-model c.args.self.now c.args.at l e c.model.ensures

pub returns-in_ok-spell-in-Some-eq69 : goal.returns-in_ok-spell-in-Some-eq69
returns-in_ok-spell-in-Some-eq69 c =
    let l : c.args.at < length c.args.self.now.text.now = search rules in
    let e : byte_at c.args.self.now.text.now c.args.at ≡ 69 = search rules in
    content-empty c.args.self.now c.args.at l e c.requires.1 c.in_ok-spell-in-Some-eq69.ensures

pub returns-in_err-spell-in-Some-eq69 : goal.returns-in_err-spell-in-Some-eq69
returns-in_err-spell-in-Some-eq69 c =
    let l : c.args.at < length c.args.self.now.text.now = search rules in
    let e : byte_at c.args.self.now.text.now c.args.at ≡ 69 = search rules in
    let p = err_from_is_err_and c.from_residual.result c.from_residual.ensures.1 in
    rw (p.1, p.2) (record { kept = kept-same; says = content-empty-fails c.args.self.now c.args.at l e c.in_err-spell-in-Some-eq69.ensures })

pub returns-in_default : goal.returns-in_default
returns-in_default c =
    let l : c.args.at < length c.args.self.now.text.now = search rules in
    let opening : byte_at c.args.self.now.text.now c.args.at ≡ 40 → ⊥ = search rules in
    let word : byte_at c.args.self.now.text.now c.args.at ≡ 69 → ⊥ = search rules in
    record { kept = kept-same; says = content-not c.args.self.now c.args.at l (c.requires.2 l) opening word }

pub returns-in_default-2 : goal.returns-in_default-2
returns-in_default-2 c =
    let l : length c.args.self.now.text.now ≤ c.args.at = search rules in
    record { kept = kept-same; says = content-end c.args.self.now c.args.at l }
