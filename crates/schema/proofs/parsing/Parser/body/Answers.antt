-- `body` meets its contract: a content and `>`.
use Rattle.std.proofs.Common.{◌≡◌, ◌≤◌, ◌<◌, length, refl, rules}
use Rattle.std.proofs.lemmas.Result.{err_from_is_err_and}
use Rattle.schema.proofs.contents.Contents.{content-high, body-fails, body_end, body-close, body-not}
use Rattle.text_spec.specs.Scans.{byte_at}
use Rattle.schema.proofs.parsing.Parser.body.Goals as goal

pub returns-in_err-read : goal.returns-in_err-read
returns-in_err-read c =
    let p = err_from_is_err_and c.from_residual.result c.from_residual.ensures.1 in
    rw (p.1, p.2) (body-fails c.in_err-read.ensures refl)

pub skip-i-requires : goal.skip-i-requires
skip-i-requires c = content-high c.in_ok-read.ensures refl

pub returns-in-Some-eq62 : goal.returns-in-Some-eq62
returns-in-Some-eq62 c =
    let l : c.skip-i.result < length c.content.new.self.text.now = search rules in
    let e : byte_at c.content.new.self.text.now c.skip-i.result ≡ 62 = search rules in
    body-close c.in_ok-read.ensures refl c.skip-i.ensures l e

pub returns-in_default : goal.returns-in_default
returns-in_default c =
    let l : c.skip-i.result < length c.content.new.self.text.now = search rules in
    let e : byte_at c.content.new.self.text.now c.skip-i.result ≡ 62 → ⊥ = search rules in
    body-not c.in_ok-read.ensures refl c.skip-i.ensures l e

pub returns-in_default-2 : goal.returns-in_default-2
returns-in_default-2 c =
    let l : length c.content.new.self.text.now ≤ c.skip-i.result = search rules in
    body_end c.in_ok-read.ensures refl c.skip-i.ensures l
