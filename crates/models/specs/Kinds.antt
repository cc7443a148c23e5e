-- The contents of elements by the numbers of their kinds.
use Rattle.std.specs.Prelude.{cond, ℕ, eqb}
use Rattle.models.specs.declared.Content.{Content}
use Rattle.models.specs.declared.Content.TheVariants.{Empty, Pcdata, Children}
use Rattle.models.specs.declared.Ends.{Ends}

abbrev pub empty_kind : ℕ
empty_kind = 0

abbrev pub pcdata_kind : ℕ
pcdata_kind = 1

abbrev pub children_kind : ℕ
children_kind = 2

abbrev pub kind_in : Content → ℕ
kind_in Empty = empty_kind
kind_in Pcdata = pcdata_kind
kind_in (Children e) = children_kind

-- the content of a kind, a children model with these ends; a number that is no kind's tells of nothing that an element may have
abbrev pub content_in : ℕ → Ends → Content
content_in kind e = cond (eqb kind pcdata_kind) Pcdata (cond (eqb kind children_kind) (Children e) Empty)
