-- What a run says whose vectors count the changes of a sequence.
use Rattle.std.proofs.Common.{◌≡◌, ap, ◌∙◌, ℕ, ◌+◌, ◌-◌, List, ◌++◌, Option, Some, None}
use Rattle.std.specs.Prelude.{◌==◌, unwrap_or}
use Rattle.std.specs.List.{flat_map, range_with_len}
use Rattle.graph.specs.declared.edges.Edge.{Edge}
use Rattle.conf.specs.declared.reading.Conf.{Conf}
use Rattle.mining.specs.declared.place.Place.TheVariants.{Results}
use Rattle.mining.specs.Flow.{count_of, flow, is_unchanged, mining_of, total_in}
use Rattle.mining.specs.Iterations.{console, console_after, done_line_at, line_at}
use Rattle.report.specs.Lines.{done_text, iteration_text, resumed_text}
use Rattle.list_laws.proofs.Alls.{all_each}
use Rattle.list_laws.proofs.Images.{flat_map_agree}
use Rattle.flow_core.specs.Following.{Giving}
use Rattle.flow_base.specs.Layouts.{Sequence, changed_in}
use Rattle.flow.specs.Iterates.{total_by}
use Rattle.flow_forms.specs.Ends.{last_line, changes_line, said_after, said_of}

module _ (gives : Giving) (conf : Conf) (edges : List Edge) (s : Sequence) (counts : (k : ℕ) → count_of (mining_of gives conf edges) k ≡ Some (changed_in s conf.nodes k))
    (last : ℕ) (total : total_in conf.command (flow (mining_of gives conf edges) Results) ≡ Some (total_by conf.command s conf.nodes last)) where
  line_is : (k : ℕ) → line_at (mining_of gives conf edges) k ≡ changes_line conf s k
  line_is k = ap (λ (count : Option ℕ). iteration_text k (unwrap_or count 0)) (counts k)

  done_is : done_line_at (mining_of gives conf edges) last ≡ last_line conf s last
  done_is =
      ap (λ (count : Option ℕ). done_text conf last (is_unchanged count) (unwrap_or (total_in conf.command (flow (mining_of gives conf edges) Results)) 0)) (counts last)
      ∙ ap (λ (found : Option ℕ). done_text conf last (changed_in s conf.nodes last == 0) (unwrap_or found 0)) total

  after_is : (k : ℕ) → console_after (mining_of gives conf edges) k last ≡ said_after conf s k last
  after_is k =
      let later = range_with_len (k + 1) (last - k) in
      ap (λ bytes. bytes ++ done_line_at (mining_of gives conf edges) last) (flat_map_agree (line_at (mining_of gives conf edges)) (changes_line conf s) later (all_each (λ j. line_at (mining_of gives conf edges) j ≡ changes_line conf s j) line_is later))
      ∙ ap (λ bytes. flat_map (changes_line conf s) later ++ bytes) done_is

  pub said_is : (k : Option ℕ) → console (mining_of gives conf edges) k last ≡ said_of conf s k last
  said_is None = ap (λ bytes. bytes ++ console_after (mining_of gives conf edges) 0 last) (line_is 0) ∙ ap (λ bytes. changes_line conf s 0 ++ bytes) (after_is 0)
  said_is (Some k) = ap (λ bytes. resumed_text k ++ bytes) (after_is k)
