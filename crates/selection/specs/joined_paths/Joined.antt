-- What several compiled paths select on the columns of a table, one after the other, and how many numbers each selects.
use Rattle.std.specs.Prelude.{List, [], ◌∷◌, ◌++◌, map, ◌≡◌, refl, ℕ, zero, suc, ◌+◌, ◌*◌, ◌-◌, ◌<◌, ◌≤◌}
use Rattle.std.proofs.Common.{append-nil, append_assoc, sym, ◌∙◌}
use Rattle.std.proofs.Math.Path.{ap, subst}
use native.Mathlib.Omega.{arith}
use Rattle.std.proofs.Math.ListN.{length}
use Rattle.axis_passes.specs.steps.Tests.{names_in}
use Rattle.axis_passes.specs.declared.rows.Rows.{Rows}
use Rattle.axis_passes.specs.declared.scratch.Scratch.{Scratch}
use Rattle.axis_passes.specs.rows.Rows.{parents_in, codes_in, HeldTexts}
use Rattle.axis_passes.specs.scratch.Scratch.{Room, Kept, room-kept, kept-kept}
use Rattle.cells.specs.lent.Appended.{written, Appended, appended-appended, appended-cleared, appended_one}
use Rattle.cells.specs.lent.Cells.{Cleared}
use Rattle.cells.specs.lent.Ends.{Slice}
use Rattle.compiled_paths.specs.Steps.{bundle_in}
use Rattle.compiled_paths.specs.Paths.{Shaped}
use Rattle.compiled_paths.specs.declared.CompiledPaths.{CompiledPaths}
use Rattle.path_spec.specs.Paths.{LocationPath}
use Rattle.selection_laws.specs.marks.Selection.{select_columns}
use Rattle.selection.specs.Steps.{path-ranges}
use Rattle.selection.specs.one_path.Paths.{path_in, paths_from, OnePass, selected-few}
use Rattle.table_laws.specs.Columns.{TestedColumns}
use Rattle.text_spec.specs.Cells.{padded}
use Rattle.text_spec.specs.Limits.{max_nodes}
use Rattle.text_spec.specs.Lists.{gather}

pub record AllPass (t : Rows) (c : CompiledPaths) (first end : ℕ) (m : List ℕ) (s : Scratch) : Type 0 where
  pub shaped : Shaped c
  pub order : first ≤ end
  pub inside : end ≤ c.count
  pub columns : TestedColumns t.columns.numbers.now (codes_in t) (parents_in t)
  pub texts : HeldTexts t
  pub room-marks : length m ≡ length (parents_in t)
  pub room : Room (parents_in t) s

module _ (c : CompiledPaths) (numbers codes ps : List ℕ) where
  -- what n paths from i on select, joined, and how many numbers each selects
  unfoldable pub items_of : ℕ → ℕ → List ℕ
  items_of n i = gather (select_columns ps (names_in codes) numbers) (paths_from c n i)

  unfoldable pub counts_of : ℕ → ℕ → List ℕ
  counts_of n i = map (λ p. length (select_columns ps (names_in codes) numbers p)) (paths_from c n i)

-- the paths from `first` to before `end` in lent cells; past them zeros
pub record JoinedAs (c : CompiledPaths) (first end : ℕ) (numbers codes ps items₀ counts₀ : List ℕ) (n : ℕ) (items counts : List ℕ) : Type 0 where
  pub items-are : items ≡ padded (length items₀) (items_of c numbers codes ps (end - first) first)
  pub counts-are : counts ≡ padded (length counts₀) (counts_of c numbers codes ps (end - first) first)
  pub total : n ≡ length (items_of c numbers codes ps (end - first) first)

-- the same of a table and of lent cells
abbrev pub JoinedIn : Rows → CompiledPaths → ℕ → ℕ → Slice → Slice → ℕ → Type 0
JoinedIn t c first end items counts n =
    JoinedAs c first end t.columns.numbers.now (codes_in t) (parents_in t) items.entry.now counts.entry.now n items.exit.now counts.exit.now

-- ---- one path more
paths-more : (c : CompiledPaths) (n i : ℕ) → paths_from c (suc n) i ≡ paths_from c n i ++ (path_in c (i + n) ∷ [])
unfolding bundle_in
paths-more c zero i = let z : i ≡ i + 0 = omega arith in ap (λ (k : ℕ). path_in c k ∷ []) z
paths-more c (suc n) i =
    let z : suc i + n ≡ i + suc n = omega arith in
    ap (λ (l : List (LocationPath ℕ)). path_in c i ∷ l) (paths-more c n (suc i) ∙ ap (λ (k : ℕ). paths_from c n (suc i) ++ (path_in c k ∷ [])) z)

gather-more : (f : LocationPath ℕ → List ℕ) (xs : List (LocationPath ℕ)) (y : LocationPath ℕ) → gather f (xs ++ (y ∷ [])) ≡ gather f xs ++ f y
gather-more f [] y = append-nil (f y)
gather-more f (x ∷ xs) y = ap (λ (l : List ℕ). f x ++ l) (gather-more f xs y) ∙ sym (append_assoc (f x) (gather f xs) (f y))

map_more : (f : LocationPath ℕ → ℕ) (xs : List (LocationPath ℕ)) (y : LocationPath ℕ) → map f (xs ++ (y ∷ [])) ≡ map f xs ++ (f y ∷ [])
map_more f [] y = refl
map_more f (x ∷ xs) y = ap (λ (l : List ℕ). f x ∷ l) (map_more f xs y)

module _ (c : CompiledPaths) (numbers codes ps : List ℕ) (n i : ℕ) where
  items_more : items_of c numbers codes ps (suc n) i ≡ items_of c numbers codes ps n i ++ select_columns ps (names_in codes) numbers (path_in c (i + n))
  unfolding items_of
  items_more =
      ap (gather (select_columns ps (names_in codes) numbers)) (paths-more c n i) ∙ gather-more (select_columns ps (names_in codes) numbers) (paths_from c n i) (path_in c (i + n))

  counts-more : counts_of c numbers codes ps (suc n) i
      ≡ counts_of c numbers codes ps n i ++ (length (select_columns ps (names_in codes) numbers (path_in c (i + n))) ∷ [])
  unfolding counts_of
  counts-more =
      ap (map (λ p. length (select_columns ps (names_in codes) numbers p))) (paths-more c n i)
      ∙ map_more (λ p. length (select_columns ps (names_in codes) numbers p)) (paths_from c n i) (path_in c (i + n))

none-appended : (was : List ℕ) → Appended was 0 [] 0 was
none-appended was = record { long = refl; count = omega arith; kept = λ k l. refl; cells = λ k l b. absurd (omega arith) }

-- ---- the loop, with the paths before i behind it
pub record PathsSoFar (t : Rows) (c : CompiledPaths) (first end : ℕ) (items₀ counts₀ m₀ : List ℕ) (s₀ : Scratch) (i n : ℕ) (items counts m : List ℕ) (s : Scratch) : Type 0 where
  pub low : first ≤ i
  pub high : i ≤ end
  pub fit : n ≤ (i - first) * max_nodes
  pub joined : Appended items₀ 0 (items_of c t.columns.numbers.now (codes_in t) (parents_in t) (i - first) first) n items
  pub counted : Appended counts₀ 0 (counts_of c t.columns.numbers.now (codes_in t) (parents_in t) (i - first) first) (i - first) counts
  pub marks-size : length m ≡ length m₀
  pub kept : Kept s₀ s

module _ (t : Rows) (c : CompiledPaths) (first end : ℕ) (items₀ counts₀ m₀ : List ℕ) (s₀ : Scratch) (h : AllPass t c first end m₀ s₀) where
  abbrev numbers : List ℕ
  numbers = t.columns.numbers.now

  abbrev codes : List ℕ
  codes = codes_in t

  abbrev ps : List ℕ
  ps = parents_in t

  pub paths-begun : Kept s₀ s₀ → PathsSoFar t c first end items₀ counts₀ m₀ s₀ first 0 items₀ counts₀ m₀ s₀
  unfolding items_of counts_of bundle_in
  paths-begun kept =
      record {
        low = omega arith;
        high = h.order;
        fit = omega arith;
        joined = subst (λ (k : ℕ). Appended items₀ 0 (items_of c numbers codes ps k first) 0 items₀) none (none-appended items₀);
        counted = subst (λ (k : ℕ). Appended counts₀ 0 (counts_of c numbers codes ps k first) k counts₀) none (none-appended counts₀);
        marks-size = refl;
        kept = kept;
      }
    where
      none : 0 ≡ first - first
      none = omega arith

  module _ (i n : ℕ) (items counts m : List ℕ) (s : Scratch) (w : PathsSoFar t c first end items₀ counts₀ m₀ s₀ i n items counts m s) where
    pub paths-one : i < end → OnePass t c i n m s
    paths-one l =
        record {
          ranges = path-ranges c i h.shaped (omega (arith, h.inside));
          columns = h.columns;
          texts = h.texts;
          low = omega (arith, w.fit, h.inside, h.shaped.few);
          room-marks = w.marks-size ∙ h.room-marks;
          room = room-kept h.room w.kept;
        }

    module _ (p : ℕ) (x : List ℕ) (a : Appended items n (select_columns ps (names_in codes) numbers (path_in c i)) p x) where
      pub one-count : p - n ≡ length (select_columns ps (names_in codes) numbers (path_in c i))
      one-count = omega (arith, a.count)

      pub one-fits : p - n ≤ max_nodes
      one-fits = omega (arith, one-count, selected-few ps codes numbers (path_in c i), h.columns.numbers-size, h.columns.few)

      pub paths-next : (y m' : List ℕ) (s' : Scratch) → i < end → y ≡ written counts (i - first) (p - n) → length m' ≡ length m → Kept s s'
          → PathsSoFar t c first end items₀ counts₀ m₀ s₀ (i + 1) p x y m' s'
      paths-next y m' s' l e u kept =
          record {
            low = omega (arith, w.low);
            high = omega arith;
            fit = omega (arith, w.low, w.fit, one-fits, a.count);
            joined =
                subst (λ (k : ℕ). Appended items₀ 0 (items_of c numbers codes ps k first) p x) (sym one_more)
                (subst (λ (l : List ℕ). Appended items₀ 0 l p x) (sym (items_more c numbers codes ps (i - first) first))
                (appended-appended items₀ items x _ _ n p w.joined (subst (λ (k : ℕ). Appended items n (select_columns ps (names_in codes) numbers (path_in c k)) p x) (sym place) a)));
            counted =
                subst (λ (k : ℕ). Appended counts₀ 0 (counts_of c numbers codes ps k first) k y) (sym one_more)
                (subst (λ (l : List ℕ). Appended counts₀ 0 l (suc (i - first)) y) (sym (counts-more c numbers codes ps (i - first) first))
                (appended-appended counts₀ counts y _ _ (i - first) (suc (i - first)) w.counted number));
            marks-size = u ∙ w.marks-size;
            kept = kept-kept w.kept kept;
          }
        where
          one_more : i + 1 - first ≡ suc (i - first)
          one_more = omega (arith, w.low)

          place : first + (i - first) ≡ i
          place = omega (arith, w.low)

          after : i - first + 1 ≡ suc (i - first)
          after = omega arith

          number : Appended counts (i - first) (length (select_columns ps (names_in codes) numbers (path_in c (first + (i - first)))) ∷ []) (suc (i - first)) y
          number =
              subst (λ (o : List ℕ). Appended counts (i - first) (length (select_columns ps (names_in codes) numbers (path_in c (first + (i - first)))) ∷ []) (suc (i - first)) o)
              (sym (e ∙ ap (written counts (i - first)) (one-count ∙ ap (λ (k : ℕ). length (select_columns ps (names_in codes) numbers (path_in c k))) (sym place))))
              (subst (λ (k : ℕ). Appended counts (i - first) (length (select_columns ps (names_in codes) numbers (path_in c (first + (i - first)))) ∷ []) k (written counts (i - first) (length (select_columns ps (names_in codes) numbers (path_in c (first + (i - first)))))))
              after (appended_one counts (i - first) (length (select_columns ps (names_in codes) numbers (path_in c (first + (i - first)))))))

    pub paths-all : end ≤ i → (x y : List ℕ) → Cleared items n x → Cleared counts (end - first) y → JoinedAs c first end numbers codes ps items₀ counts₀ n x y
    paths-all l x y a b =
        record {
          items-are = appended-cleared items₀ items x _ n joined-all a;
          counts-are = appended-cleared counts₀ counts y _ (end - first) counted-all b;
          total = zero-plus (length (items_of c numbers codes ps (end - first) first)) joined-all.count;
        }
      where
        same : i - first ≡ end - first
        same = omega (arith, w.high)

        joined-all : Appended items₀ 0 (items_of c numbers codes ps (end - first) first) n items
        joined-all = subst (λ (k : ℕ). Appended items₀ 0 (items_of c numbers codes ps k first) n items) same w.joined

        counted-all : Appended counts₀ 0 (counts_of c numbers codes ps (end - first) first) (end - first) counts
        counted-all = subst (λ (k : ℕ). Appended counts₀ 0 (counts_of c numbers codes ps k first) k counts) same w.counted

        zero-plus : (k : ℕ) → n ≡ 0 + k → n ≡ k
        zero-plus k e = omega arith
