-- One iteration after another.
use Rattle.std.specs.Prelude.{◌≡◌, ℕ, ◌+◌, ◌-◌, ◌^◌, ◌<◌, ◌≤◌, true, List, ◌++◌, Option, None, Some, unwrap_or}
use Rattle.dir_disk.specs.Streams.{added}
use Rattle.std.specs.List.{flat_map, range_with_len}
use Rattle.dir_disk.specs.State.{State}
use Rattle.report.specs.Lines.{done_text, iteration_text, resumed_text}
use Rattle.mining.specs.declared.place.Place.TheVariants.{Vector, Results}
use Rattle.mining.specs.Flow.{Mining, count_of, ends_unchanged, flow, is_unchanged, last_of, total_in}
use Rattle.mining.specs.Kept.{MayBeWhole}
use Rattle.mining.specs.Between.{IsSure}

-- iteration k comes next: the one before it is whole in each image, and it is none after the last one
pub record IsNext (mining : Mining) (k : ℕ) (state : State) : Type 0 where
  pub some : 1 ≤ k
  pub few : k < 10 ^ 10
  pub before : IsSure (Vector (k - 1)) state
  pub may : MayBeWhole (last_of mining) (Vector k)

-- what is said of iteration k
abbrev pub line_at : Mining → ℕ → List ℕ
line_at mining k = iteration_text k (unwrap_or (count_of mining k) 0)

-- the lines of so many iterations after iteration k
abbrev pub lines_after : Mining → ℕ → ℕ → List ℕ
lines_after mining k count = flat_map (line_at mining) (range_with_len (k + 1) count)

-- after iteration k, in which so many nodes changed, as far as that may end it
pub record IsAt (mining : Mining) (k changed : ℕ) : Type 0 where
  pub count : 1 ≤ k → ends_unchanged mining.conf.command ≡ true → count_of mining k ≡ Some changed

-- the last line
abbrev pub done_line_at : Mining → ℕ → List ℕ
done_line_at mining last =
    done_text mining.conf last (is_unchanged (count_of mining last)) (unwrap_or (total_in mining.conf.command (flow mining Results)) 0)

-- all that is said after iteration k, where this is the last one
abbrev pub console_after : Mining → ℕ → ℕ → List ℕ
console_after mining k last = lines_after mining k (last - k) ++ done_line_at mining last

-- all that a run says: where it goes on, or its first iteration, and what comes after that
abbrev pub console : Mining → Option ℕ → ℕ → List ℕ
console mining None last = line_at mining 0 ++ console_after mining 0 last
console mining (Some k) last = resumed_text k ++ console_after mining k last

-- there is a last iteration, all was said, and its vector and the result are whole in each image
pub record IsDone (mining : Mining) (k : ℕ) (before now : Option (List ℕ)) (state : State) : Type 0 where
  pub last : ℕ
  pub is : last_of mining ≡ Some last
  pub said : now ≡ added before (console_after mining k last)
  pub vector : IsSure (Vector last) state
  pub result : IsSure Results state
