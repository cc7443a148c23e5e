-- `particle` and `group` meet their contracts.
use Rattle.std.proofs.Common.{◌∙◌, ◌≡◌, ◌≤◌, ◌<◌, ◌+◌, true, false, length, refl, ap, arith, rules}
use Rattle.std.specs.Prelude.{Ok}
use Rattle.std.proofs.lemmas.Result.{err_from_is_err_and}
use Rattle.schema.proofs.groups.Groups.{particle-end, particle-name, particle-not, particle-deep, open-fails, open-high, open-reads, group-start, group-high, group-many, group-kept, group-same, group-fails, particle-high, group-stops, group-closes, group-next}
use Rattle.schema.specs.particles.ReadingLaws.{kept-same}
use Rattle.text_spec.specs.Bytes.{starts_name}
use Rattle.text_spec.specs.Limits.{max_groups}
use Rattle.text_spec.specs.Scans.{byte_at}
use Rattle.schema.proofs.parsing.Parser.+group_particle.Goals as goal

-- ---- a group
pub group-loop-p-init : goal.group-loop-p-init
group-loop-p-init t c = group-start _ c.requires.0 c.requires.2

pub group-particle-requires : goal.group-particle-requires
group-particle-requires t c =
    (omega arith, (group-high c.loop-p.invariant, c.requires.1, c.loop-p.invariant.read.few, group-many c.loop-p.invariant c.requires.3))

pub group-returns-in_err-p : goal.group-returns-in_err-p
group-returns-in_err-p t c =
    let p = err_from_is_err_and c.from_residual.result c.from_residual.ensures.1 in
    rw (p.1, p.2) (record {
      kept = group-kept c.loop-p.invariant c.requires.3 c.in_err-p.ensures;
      start = group-same c.loop-p.invariant c.requires.3 c.in_err-p.ensures;
      says = group-fails c.loop-p.invariant c.requires.3 c.in_err-p.ensures refl;
    })

pub group-after_particle-requires : goal.group-after_particle-requires
group-after_particle-requires t c = particle-high c.loop-p.invariant c.requires.3 c.in_ok-p.ensures refl

pub group-returns-in_err-at : goal.group-returns-in_err-at
group-returns-in_err-at t c =
    let p = err_from_is_err_and c.from_residual-in_err-at.result c.from_residual-in_err-at.ensures.1 in
    let k = group-kept c.loop-p.invariant c.requires.3 c.in_ok-p.ensures in
    rw (p.1, p.2) (record {
      kept = record { text = k.text; uses = k.uses; predecessors = k.predecessors; uses-size = k.uses-size; predecessors-size = c.join-ends.ensures.long ∙ k.predecessors-size };
      start = group-same c.loop-p.invariant c.requires.3 c.in_ok-p.ensures;
      says = group-stops c.loop-p.invariant c.requires.3 c.in_ok-p.ensures refl c.join-ends.ensures c.in_err-at.ensures refl;
    })

pub group-returns-in-Close : goal.group-returns-in-Close
group-returns-in-Close t c =
    group-closes c.loop-p.invariant c.requires.3 c.in_ok-p.ensures refl c.join-ends.ensures c.in_ok-at.ensures (ap Ok c.in-Close.is)

pub group-loop-p-smaller : goal.group-loop-p-smaller
group-loop-p-smaller t c =
    let N = group-next c.loop-p.invariant c.requires.3 c.in_ok-p.ensures refl c.join-ends.ensures c.in_ok-at.ensures (ap Ok c.in-More.is) in
    let h = N.1.read.high in
    let l = N.0 in
    omega arith

pub group-loop-p-preserved : goal.group-loop-p-preserved
group-loop-p-preserved t c =
    (group-next c.loop-p.invariant c.requires.3 c.in_ok-p.ensures refl c.join-ends.ensures c.in_ok-at.ensures (ap Ok c.in-More.is)).1

-- ---- a particle
pub particle-use_name-requires : goal.particle-use_name-requires
particle-use_name-requires t c =
    let l : c.skip-i.result < length c.args.self.now.text.now = search rules in
    let e : starts_name (byte_at c.args.self.now.text.now c.skip-i.result) ≡ true = search rules in
    let k = c.skip-i.ensures.low in
    let n = c.requires.2 in
    (l, e, omega arith, c.requires.3)

pub particle-returns-in-Some : goal.particle-returns-in-Some
particle-returns-in-Some t c = particle-name c.args.self.now c.skip-i.ensures c.use_name.ensures

pub particle-group-requires : goal.particle-group-requires
particle-group-requires t c =
    let l : c.skip-i.result < length c.args.self.now.text.now = search rules in
    let d : c.args.depth + 1 < max_groups = omega (arith, c.if-depth-lt-DEEPEST.true) in
    let k = c.skip-i.ensures.low in
    let n = c.requires.2 in
    (omega arith, (omega arith, d, omega arith, c.requires.3))

pub particle-returns-in_err-p-in-Some-eq40 : goal.particle-returns-in_err-p-in-Some-eq40
particle-returns-in_err-p-in-Some-eq40 t c =
    let l : c.skip-i.result < length c.args.self.now.text.now = search rules in
    let e : starts_name (byte_at c.args.self.now.text.now c.skip-i.result) ≡ false = search rules in
    let b : byte_at c.args.self.now.text.now c.skip-i.result ≡ 40 = search rules in
    let p = err_from_is_err_and c.from_residual.result c.from_residual.ensures.1 in
    rw (p.1, p.2) (record { kept = c.in_err-p-in-Some-eq40.ensures.kept; start = c.in_err-p-in-Some-eq40.ensures.start; says = open-fails c.args.self.now c.skip-i.ensures l e b c.args.depth (omega (arith, c.if-depth-lt-DEEPEST.true)) c.in_err-p-in-Some-eq40.ensures refl })

pub particle-indicated-requires : goal.particle-indicated-requires
particle-indicated-requires t c =
    let l : c.skip-i.result < length c.args.self.now.text.now = search rules in
    let e : starts_name (byte_at c.args.self.now.text.now c.skip-i.result) ≡ false = search rules in
    let b : byte_at c.args.self.now.text.now c.skip-i.result ≡ 40 = search rules in
    open-high c.args.self.now c.skip-i.ensures l e b c.args.depth (omega (arith, c.if-depth-lt-DEEPEST.true)) c.in_ok-p-in-Some-eq40.ensures _ refl

pub particle-returns-in_ok-p-in-Some-eq40 : goal.particle-returns-in_ok-p-in-Some-eq40
particle-returns-in_ok-p-in-Some-eq40 t c =
    let l : c.skip-i.result < length c.args.self.now.text.now = search rules in
    let e : starts_name (byte_at c.args.self.now.text.now c.skip-i.result) ≡ false = search rules in
    let b : byte_at c.args.self.now.text.now c.skip-i.result ≡ 40 = search rules in
    open-reads c.args.self.now c.skip-i.ensures l e b c.args.depth (omega (arith, c.if-depth-lt-DEEPEST.true)) c.in_ok-p-in-Some-eq40.ensures refl c.indicated.ensures

pub particle-returns-in_default : goal.particle-returns-in_default
particle-returns-in_default t c =
    let l : c.skip-i.result < length c.args.self.now.text.now = search rules in
    let e : starts_name (byte_at c.args.self.now.text.now c.skip-i.result) ≡ false = search rules in
    let b : byte_at c.args.self.now.text.now c.skip-i.result ≡ 40 = search rules in
    record { kept = kept-same; start = refl; says = particle-deep c.args.self.now c.skip-i.ensures l e b c.args.depth (omega (arith, c.if-depth-lt-DEEPEST.false)) }

pub particle-returns-in_default-2 : goal.particle-returns-in_default-2
particle-returns-in_default-2 t c =
    let l : c.skip-i.result < length c.args.self.now.text.now = search rules in
    let e : starts_name (byte_at c.args.self.now.text.now c.skip-i.result) ≡ false = search rules in
    let b : byte_at c.args.self.now.text.now c.skip-i.result ≡ 40 → ⊥ = search rules in
    record { kept = kept-same; start = refl; says = λ x. particle-not c.args.self.now c.skip-i.ensures l e b x.0 }

pub particle-returns-in_default-3 : goal.particle-returns-in_default-3
particle-returns-in_default-3 t c =
    let l : length c.args.self.now.text.now ≤ c.skip-i.result = search rules in
    record { kept = kept-same; start = refl; says = λ x. particle-end c.args.self.now c.skip-i.ensures l x.0 }
