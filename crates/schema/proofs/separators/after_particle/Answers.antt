-- `after_particle` meets its contract: the byte after the blanks decides.
use Rattle.std.proofs.Common.{◌≡◌, ◌≤◌, ◌<◌, true, false, length, rules}
use Rattle.schema.specs.declared.particles.Separator.TheVariants.{Bar, Comma}
use Rattle.schema.specs.particles.ParticleLaws.{follow-end, follow-close, follow-more, follow-wrong, follow-not}
use Rattle.schema.specs.particles.Readings.{may_part}
use Rattle.text_spec.specs.Scans.{byte_at}
use Rattle.schema.proofs.separators.after_particle.Goals as goal

pub returns-in-Some-eq41 : goal.returns-in-Some-eq41
returns-in-Some-eq41 c =
    let l : c.skip-i.result < length c.args.s.now = search rules in
    let e : byte_at c.args.s.now c.skip-i.result ≡ 41 = search rules in
    record { says = follow-close c.args.parted c.skip-i.ensures l e }

pub returns-in-Some-eq124 : goal.returns-in-Some-eq124
returns-in-Some-eq124 c =
    let l : c.skip-i.result < length c.args.s.now = search rules in
    let e : byte_at c.args.s.now c.skip-i.result ≡ 124 = search rules in
    let m : may_part c.args.parted Bar ≡ true = search rules in
    record { says = follow-more c.args.parted c.skip-i.ensures l Bar e m }

pub returns-in-Some-eq44 : goal.returns-in-Some-eq44
returns-in-Some-eq44 c =
    let l : c.skip-i.result < length c.args.s.now = search rules in
    let e : byte_at c.args.s.now c.skip-i.result ≡ 44 = search rules in
    let m : may_part c.args.parted Comma ≡ true = search rules in
    record { says = follow-more c.args.parted c.skip-i.ensures l Comma e m }

pub returns-in_default : goal.returns-in_default
returns-in_default c =
    let l : c.skip-i.result < length c.args.s.now = search rules in
    let e : byte_at c.args.s.now c.skip-i.result ≡ 124 = search rules in
    let m : may_part c.args.parted Bar ≡ false = search rules in
    record { says = follow-wrong c.args.parted c.skip-i.ensures l Bar e m }

pub returns-in_default-2 : goal.returns-in_default-2
returns-in_default-2 c =
    let l : c.skip-i.result < length c.args.s.now = search rules in
    let e : byte_at c.args.s.now c.skip-i.result ≡ 44 = search rules in
    let m : may_part c.args.parted Comma ≡ false = search rules in
    record { says = follow-wrong c.args.parted c.skip-i.ensures l Comma e m }

pub returns-in_default-3 : goal.returns-in_default-3
returns-in_default-3 c =
    let l : c.skip-i.result < length c.args.s.now = search rules in
    let close : byte_at c.args.s.now c.skip-i.result ≡ 41 → ⊥ = search rules in
    let bar : byte_at c.args.s.now c.skip-i.result ≡ 124 → ⊥ = search rules in
    let comma : byte_at c.args.s.now c.skip-i.result ≡ 44 → ⊥ = search rules in
    record { says = follow-not c.args.parted c.skip-i.ensures l close bar comma }

pub returns-in_default-4 : goal.returns-in_default-4
returns-in_default-4 c =
    let l : length c.args.s.now ≤ c.skip-i.result = search rules in
    record { says = follow-end c.args.parted c.skip-i.ensures l }
