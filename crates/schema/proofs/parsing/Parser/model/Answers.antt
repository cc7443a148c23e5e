-- `model` meets its contract: `#` or a group.
use Rattle.std.proofs.Common.{◌≡◌, ◌≤◌, ◌<◌, length, refl, rules}
use Rattle.std.proofs.lemmas.Result.{err_from_is_err_and}
use Rattle.schema.proofs.contents.Contents.{model-end, model-pcdata, model-pcdata-fails, model-kept, model-fails, model-high, model-reads}
use Rattle.schema.specs.particles.ReadingLaws.{kept-same}
use Rattle.text_spec.specs.Scans.{byte_at}
use Rattle.schema.proofs.parsing.Parser.model.Goals as goal

pub returns-in-None : goal.returns-in-None
returns-in-None c =
    let l : length c.args.self.now.text.now ≤ c.skip-i.result = search rules in
    record { kept = kept-same; says = model-end c.args.self.now c.skip-i.ensures l }

pub returns-in_err-pcdata-in-Some-eq35 : goal.returns-in_err-pcdata-in-Some-eq35
returns-in_err-pcdata-in-Some-eq35 c =
    let l : c.skip-i.result < length c.args.self.now.text.now = search rules in
    let e : byte_at c.args.self.now.text.now c.skip-i.result ≡ 35 = search rules in
    let p = err_from_is_err_and c.from_residual.result c.from_residual.ensures.1 in
    rw (p.1, p.2) (record { kept = kept-same; says = model-pcdata-fails c.args.self.now c.skip-i.ensures l e c.in_err-pcdata-in-Some-eq35.ensures })

pub returns-in_ok-pcdata-in-Some-eq35 : goal.returns-in_ok-pcdata-in-Some-eq35
returns-in_ok-pcdata-in-Some-eq35 c =
    let l : c.skip-i.result < length c.args.self.now.text.now = search rules in
    let e : byte_at c.args.self.now.text.now c.skip-i.result ≡ 35 = search rules in
    model-pcdata c.args.self.now c.skip-i.ensures l e c.requires.1 c.in_ok-pcdata-in-Some-eq35.ensures

pub returns-in_err-group-in-Some : goal.returns-in_err-group-in-Some
returns-in_err-group-in-Some c =
    let l : c.skip-i.result < length c.args.self.now.text.now = search rules in
    let e : byte_at c.args.self.now.text.now c.skip-i.result ≡ 35 → ⊥ = search rules in
    let p = err_from_is_err_and c.from_residual-in_err-group-in-Some.result c.from_residual-in_err-group-in-Some.ensures.1 in
    rw (p.1, p.2) (record { kept = model-kept c.args.self.now c.skip-i.ensures l e c.in_err-group-in-Some.ensures; says = model-fails c.args.self.now c.skip-i.ensures l e c.in_err-group-in-Some.ensures refl })

pub indicated-whole-requires : goal.indicated-whole-requires
indicated-whole-requires c =
    let l : c.skip-i.result < length c.args.self.now.text.now = search rules in
    let e : byte_at c.args.self.now.text.now c.skip-i.result ≡ 35 → ⊥ = search rules in
    model-high c.args.self.now c.skip-i.ensures l e c.in_ok-group-in-Some.ensures _ refl

pub returns-in_ok-group-in-Some : goal.returns-in_ok-group-in-Some
returns-in_ok-group-in-Some c =
    let l : c.skip-i.result < length c.args.self.now.text.now = search rules in
    let e : byte_at c.args.self.now.text.now c.skip-i.result ≡ 35 → ⊥ = search rules in
    model-reads c.args.self.now c.skip-i.ensures l e c.in_ok-group-in-Some.ensures refl c.indicated-whole.ensures
