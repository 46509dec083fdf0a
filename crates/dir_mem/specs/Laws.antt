-- The laws of a directory, of a directory in memory.
use Rattle.std.specs.Prelude.{◌≡◌, ℕ, ◌^◌, ◌≤◌, List, [], length, Some, None}
use Rattle.std.proofs.Common.{sym, ◌∙◌, ap, subst, ⊎_elim}
use Rattle.std.proofs.lemmas.Bool.{leb-true}
use Rattle.peg_base.specs.Names.{Names}
use Rattle.dir_disk.specs.State.{Content, Allows, Held, State, absent}
use Rattle.dir_disk.specs.Moments.{files}
use Rattle.dir_mem.specs.declared.mem_dir.MemDir.{MemDir}
use Rattle.dir_mem.specs.Log.{state_of}
use Rattle.dir_mem.specs.Memory.{told_of}
use Rattle.dir_mem.specs.Sound.{is_short_content}
use Rattle.dir_mem.specs.Facts.{absent_from, allowed_now, allows_it, calls_grow, present, short_now}

pub clock_of_memory : (dir : MemDir) (early late : ℕ) → early ≤ late → late ≤ (told_of dir).count → ((told_of dir).at early).calls ≤ ((told_of dir).at late).calls
clock_of_memory dir early late le within = calls_grow dir.steps.items early late le

pub now_is_allowed : (dir : MemDir) (path : Names) → Allows (files (told_of dir) path).may (files (told_of dir) path).now
now_is_allowed dir path =
    subst (λ (s : State). Allows (s path).may (s path).now) (sym (present dir.steps.items)) (allows_it (state_of dir.steps.items path).may (state_of dir.steps.items path).now (allowed_now (state_of dir.steps.items path) (dir.sound path)))

pub files_are_short : (dir : MemDir) (path : Names) (bytes : List ℕ) → (files (told_of dir) path).now ≡ Some bytes → length bytes ≤ 2 ^ 50
files_are_short dir path bytes is =
    let there : (state_of dir.steps.items path).now ≡ Some bytes = ap (λ (s : State). (s path).now) (sym (present dir.steps.items)) ∙ is in
    leb-true (length bytes) (2 ^ 50) (ap is_short_content (sym there) ∙ short_now (state_of dir.steps.items path) (dir.sound path))

pub top_is_none : (dir : MemDir) (content : Content) → Allows (files (told_of dir) []).may content → content ≡ None
top_is_none dir content allowed =
    let none : files (told_of dir) [] ≡ absent = ap (λ (s : State). s []) (present dir.steps.items) ∙ absent_from (state_of dir.steps.items []) dir.no_top in
    ⊎_elim (λ gone. gone) (λ never. absurd never) (subst (λ (h : Held). Allows h.may content) none allowed)
