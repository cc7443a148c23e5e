-- The types of an accepted schema meet what the main lemma asks of them.
use Rattle.std.specs.Prelude.{◌<◌, length}
use Rattle.projection_laws.specs.Documents.{Lawful}
use Rattle.schema_laws.specs.Closure.{Closed, one, chain-join, closure-chain, chain-closure, holder_in, held_in}
use Rattle.schema_laws.specs.Names.{element-in}
use Rattle.schema_spec.specs.Names.{names_of}
use Rattle.schema_spec.specs.Schemas.{Schema}
use Rattle.schema_spec.specs.Types.{types_of, holds}

pub types-lawful : (s : Schema) → 0 < length s → Closed s → Lawful (types_of s)
unfolding types_of
types-lawful s full c =
    record {
      rooted = element-in s 0 full;
      closed = λ a b t. (holder_in s a b t, held_in s c a b t);
      below_one = λ a b t. chain-closure (names_of s) (holds s) (one (holder_in s a b t) (held_in s c a b t) t);
      below-trans = λ a b d t u. chain-closure (names_of s) (holds s) (chain-join (closure-chain (names_of s) (holds s) a b t) (closure-chain (names_of s) (holds s) b d u));
    }
