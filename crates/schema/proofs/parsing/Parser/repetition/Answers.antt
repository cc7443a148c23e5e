-- `repetition` meets its contract: `?`, `*`, `+` or no indicator.
use Rattle.std.proofs.Common.{◌≡◌, ◌≤◌, ◌<◌, length, rules, ap, refl}
use Rattle.schema.proofs.indicators.Indicators.{not-indicator, none-past}
use Rattle.schema.specs.particles.AutomataLaws.{repeated-optional, repeated-any, repeated-more}
use Rattle.schema.specs.particles.ReadingLaws.{kept-same}
use Rattle.schema.specs.particles.Readings.{is_indicator, indicator_of}
use Rattle.text_spec.specs.Scans.{byte_at}
use Rattle.schema.proofs.parsing.Parser.repetition.Goals as goal

pub returns-in-Some-eq63 : goal.returns-in-Some-eq63
returns-in-Some-eq63 c =
    let l : c.args.at < length c.args.self.now.text.now = search rules in
    let e : byte_at c.args.self.now.text.now c.args.at ≡ 63 = search rules in
    record { only = record { kept = kept-same; uses = refl; count = refl; start = refl }; says = (l, ap is_indicator e, rw (ap indicator_of e) (repeated-optional _ _ _ c.in_repetition.ensures)) }

pub returns-in-Some-eq42 : goal.returns-in-Some-eq42
returns-in-Some-eq42 c =
    let l : c.args.at < length c.args.self.now.text.now = search rules in
    let e : byte_at c.args.self.now.text.now c.args.at ≡ 42 = search rules in
    record { only = record { kept = record { text = refl; uses = refl; predecessors = refl; uses-size = refl; predecessors-size = c.link.ensures.long }; uses = refl; count = refl; start = refl }; says = (l, ap is_indicator e, rw (ap indicator_of e) (repeated-any _ _ _ _ c.link.ensures c.in_repetition-in-Some-eq42.ensures)) }

pub returns-in-Some-eq43 : goal.returns-in-Some-eq43
returns-in-Some-eq43 c =
    let l : c.args.at < length c.args.self.now.text.now = search rules in
    let e : byte_at c.args.self.now.text.now c.args.at ≡ 43 = search rules in
    record { only = record { kept = record { text = refl; uses = refl; predecessors = refl; uses-size = refl; predecessors-size = c.link-in-Some-eq43.ensures.long }; uses = refl; count = refl; start = refl }; says = (l, ap is_indicator e, rw (ap indicator_of e) (repeated-more _ _ _ _ c.link-in-Some-eq43.ensures c.in_repetition-in-Some-eq43.ensures)) }

pub returns-in_default : goal.returns-in_default
returns-in_default c =
    let optional : byte_at c.args.self.now.text.now c.args.at ≡ 63 → ⊥ = search rules in
    let any : byte_at c.args.self.now.text.now c.args.at ≡ 42 → ⊥ = search rules in
    let more : byte_at c.args.self.now.text.now c.args.at ≡ 43 → ⊥ = search rules in
    record { only = record { kept = kept-same; uses = refl; count = refl; start = refl }; says = (refl, not-indicator _ optional any more) }

pub returns-in_default-2 : goal.returns-in_default-2
returns-in_default-2 c =
    let l : length c.args.self.now.text.now ≤ c.args.at = search rules in
    record { only = record { kept = kept-same; uses = refl; count = refl; start = refl }; says = (refl, none-past _ _ l) }
