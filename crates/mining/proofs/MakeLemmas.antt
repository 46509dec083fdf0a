-- A folder's job, from its settings to what it makes.
use Rattle.std.proofs.Common.{◌≡◌, ℕ, zero, suc, ◌*◌, ◌^◌, ◌<◌, ◌≤◌, Bool, true, false, if◌then◌else◌, ⊎_elim, List, [], ◌∷◌, length, get_or, None, refl, sym, ◌∙◌, ap, subst, arith, length-append}
use Rattle.std.specs.List.{All, AllByRecursion, flat_map, range_with_len}
use Rattle.std.proofs.lemmas.Bool.{false≢true}
use Rattle.std.proofs.lemmas.List.Elements.{All-nil, All-append, All-map}
use Rattle.std.proofs.lemmas.List.FromFn.{length-map-range_with_len}
use Rattle.peg_base.specs.Names.{Names, under, same_path}
use Rattle.peg_base.proofs.Under.{under-append, under-antisymm, under-same, under-short, same_path-refl, same_path_comm}
use Rattle.dir_disk.specs.State.{Allows, Held, State}
use Rattle.dir_disk.specs.Calls.{HasFile, IsOpen}
use Rattle.dir_disk.specs.Moments.{Told, Through, Both, files}
use Rattle.dir_disk.proofs.Through.{weaker, then_goes}
use Rattle.committer.specs.Paths.{part_name, part_of, success_of}
use Rattle.committer.specs.Folders.{IsUnmarked}
use Rattle.committer.proofs.FolderLemmas.{not_whole}
use Rattle.conf.specs.declared.commands.Form.{Form}
use Rattle.conf.specs.declared.commands.Form.TheVariants.{Base, Block, Clustered, Diagonal}
use Rattle.conf.specs.declared.reading.Conf.{Conf as Settings}
use Rattle.conf.specs.Limits.{IsWithinLimits}
use Rattle.job.specs.declared.spec.JobSpec.{JobSpec}
use Rattle.job.specs.Inputs.{AreOutside, bytes_at_each}
use Rattle.job.specs.Output.{Plan, job_parts}
use Rattle.job.specs.Whole.{CanBegin, IsFinished, IsInLimits, Makes, plan_of}
use Rattle.job.proofs.InputLemmas.{bytes_outside}
use Rattle.mining.specs.declared.place.Place.{Place}
use Rattle.mining.specs.declared.place.Place.TheVariants.{Conf, Edges, Nodes, Placed, Matrix, Blocks, Messages, Vector, Joined, Results}
use Rattle.mining.specs.Places.{folder_of, IsInTable, is_sealed}
use Rattle.mining.specs.Table.{inputs_of, map_words, part_count, part_paths, paths_read, reduce_words}
use Rattle.mining.specs.Flow.{depth_of, plan_for}
use Rattle.mining.proofs.Names.{AreApart, same_or_apart}
use Rattle.mining.proofs.Flows.{inputs_lower}
use Rattle.mining.specs.Making.{IsAsAt, IsJobOf, parts_from}
use Rattle.mining.proofs.Looks.{same_after}

-- ---- the files that a job reads

-- inputs are folders of the table
pub inputs_there : (form : Form) (last : ℕ) (place : Place) → last < 10 ^ 10 → IsInTable place → AllByRecursion IsInTable (inputs_of form last place)
inputs_there form last Conf few is_there = tt
inputs_there form last Edges few is_there = tt
inputs_there form last Nodes few is_there = tt
inputs_there form last Placed few is_there = tt
inputs_there Base last Matrix few is_there = (tt, tt)
inputs_there Block last Matrix few is_there = (tt, tt)
inputs_there Clustered last Matrix few is_there = (tt, tt)
inputs_there Diagonal last Matrix few is_there = (tt, tt)
inputs_there form last Blocks few is_there = (tt, tt)
inputs_there form last (Messages zero) few is_there = tt
inputs_there Base last (Messages (suc k)) few is_there = (tt, (let small = is_there.1 in omega (arith, small), tt))
inputs_there Block last (Messages (suc k)) few is_there = (tt, (let small = is_there.1 in omega (arith, small), tt))
inputs_there Clustered last (Messages (suc k)) few is_there = (tt, (let small = is_there.1 in omega (arith, small), tt))
inputs_there Diagonal last (Messages (suc k)) few is_there = (tt, (let small = is_there.1 in omega (arith, small), tt))
inputs_there form last (Vector zero) few is_there = (tt, tt)
inputs_there form last (Vector (suc k)) few is_there = ((omega arith, is_there), tt)
inputs_there form last Joined few is_there = (tt, (few, tt))
inputs_there Base last Results few is_there = (few, tt)
inputs_there Block last Results few is_there = (few, tt)
inputs_there Clustered last Results few is_there = (tt, tt)
inputs_there Diagonal last Results few is_there = (few, tt)

both_each : (P Q R : Place → Type 0) (places : List Place) → ((place : Place) → P place → Q place → R place) → AllByRecursion P places → AllByRecursion Q places → AllByRecursion R places
both_each P Q R [] weak ps qs = tt
both_each P Q R (place ∷ places) weak ps qs = (weak place ps.0 qs.0, both_each P Q R places weak ps.1 qs.1)

all_joined : (P : Names → Type 0) (f : Place → List Names) (places : List Place) → AllByRecursion (λ place. All P (f place)) places → All P (flat_map f places)
all_joined P f [] all = All-nil P
all_joined P f (place ∷ places) all = All-append P (f place) (flat_map f places) all.0 (all_joined P f places all.1)

parts_apart_from : (input place : Place) (count : ℕ) → AreApart input place → All (λ path. under (folder_of place) path ≡ false) (part_paths input count)
parts_apart_from input place count apart =
    All-map (λ path. under (folder_of place) path ≡ false) (part_of (folder_of input)) (range_with_len 0 count) (λ k d below. apart (part_of (folder_of input) (get_or (range_with_len 0 count) k d)) (under-append (folder_of input) (part_name (get_or (range_with_len 0 count) k d) ∷ [])))

pub paths_outside : (conf : Settings) (last : ℕ) (place : Place) → last < 10 ^ 10 → IsInTable place → All (λ path. under (folder_of place) path ≡ false) (paths_read conf last place)
unfolding paths_read
paths_outside conf last place few is_there =
    all_joined (λ path. under (folder_of place) path ≡ false) (λ input. part_paths input (part_count conf input)) (inputs_of conf.form last place) (both_each (λ input. depth_of last input < depth_of last place) IsInTable (λ input. All (λ path. under (folder_of place) path ≡ false) (part_paths input (part_count conf input))) (inputs_of conf.form last place) each (inputs_lower conf.form last place) (inputs_there conf.form last place few is_there))
  where
    each : (input : Place) → depth_of last input < depth_of last place → IsInTable input → All (λ path. under (folder_of place) path ≡ false) (part_paths input (part_count conf input))
    each input lower input_there =
        ⊎_elim (λ same. absurd (let depths = ap (depth_of last) same in omega (arith, depths, lower))) (λ apart. parts_apart_from input place (part_count conf input) apart) (same_or_apart input place input_there is_there)

few_folders : (form : Form) (last : ℕ) (place : Place) → length (inputs_of form last place) ≤ 2
few_folders form last Conf = omega arith
few_folders form last Edges = omega arith
few_folders form last Nodes = omega arith
few_folders form last Placed = omega arith
few_folders form last Matrix = omega arith
few_folders form last Blocks = omega arith
few_folders form last (Messages zero) = omega arith
few_folders form last (Messages (suc k)) = omega arith
few_folders form last (Vector zero) = omega arith
few_folders form last (Vector (suc k)) = omega arith
few_folders form last Joined = omega arith
few_folders form last Results = omega arith

few_joined : (f : Place → List Names) (places : List Place) → ((place : Place) → length (f place) ≤ 64) → length (flat_map f places) ≤ 64 * length places
few_joined f [] few = omega arith
few_joined f (place ∷ places) few =
    let rest = few_joined f places few in
    let one = few place in
    let both = length-append (f place) (flat_map f places) in
    omega (arith, rest, one, both)

few_parts : (conf : Settings) (place : Place) → conf.reducers ≤ 64 → part_count conf place ≤ 64
few_parts conf place few = at (is_sealed place) refl
  where
    at : (sealed : Bool) → is_sealed place ≡ sealed → part_count conf place ≤ 64
    at true is = subst (λ (count : ℕ). count ≤ 64) (sym (ap (λ (sealed : Bool). if sealed then 1 else conf.reducers) is)) (omega arith)
    at false is = subst (λ (count : ℕ). count ≤ 64) (sym (ap (λ (sealed : Bool). if sealed then 1 else conf.reducers) is)) few

few_paths : (conf : Settings) (last : ℕ) (place : Place) → conf.reducers ≤ 64 → length (paths_read conf last place) ≤ 128
unfolding paths_read
few_paths conf last place few =
    let all = few_joined (λ input. part_paths input (part_count conf input)) (inputs_of conf.form last place) (λ input. subst (λ (n : ℕ). n ≤ 64) (sym (length-map-range_with_len (part_of (folder_of input)) 0 (part_count conf input))) (few_parts conf input few)) in
    let folders = few_folders conf.form last place in
    omega (arith, all, folders)

-- ---- looks before the job

pub looks_make : (folder : Names) (parts : List (List ℕ)) (d e : Told) → IsUnmarked folder (files d) → Through (Both (IsAsAt (files d))) d e → Through (Makes folder parts (files d)) d e
looks_make folder parts d e unmarked steps =
    weaker (Both (IsAsAt (files d))) (Makes folder parts (files d)) d e (λ s t both. record { images = λ image fits whole. absurd (not_whole folder s t (still s both.0) (still t both.1) image fits whole); outside = (λ q apart. both.0 q, λ q apart. both.1 q) }) steps
  where
    still : (s : State) → IsAsAt (files d) s → IsUnmarked folder s
    still s same content allowed =
        unmarked content (subst (λ (h : Held). Allows h.may content) (same (success_of folder)) allowed)

-- ---- the job

some_words : (conf : Settings) (place : Place) → (1 ≤ length (map_words conf place)) × (1 ≤ length (reduce_words conf place))
unfolding map_words reduce_words
some_words conf place = (omega arith, omega arith)

abbrev plan_with : List (List ℕ) → List (List ℕ) → List (List ℕ) → ℕ → ℕ → Plan
plan_with inputs map_words reduce_words split reducers =
    record { inputs = inputs; map_words = map_words; reduce_words = reduce_words; split = split; reducers = reducers }

same_plan : (b c m n r t : List (List ℕ)) → (s u k l : ℕ) → b ≡ c → m ≡ n → r ≡ t → s ≡ u → k ≡ l → plan_with b m r s k ≡ plan_with c n t u l
same_plan b c m n r t s u k l bc mn rt su kl =
    ap (λ (x : List (List ℕ)). plan_with x m r s k) bc ∙ ap (λ (x : List (List ℕ)). plan_with c x r s k) mn ∙ ap (λ (x : List (List ℕ)). plan_with c n x s k) rt ∙ ap (λ (x : ℕ). plan_with c n t x k) su ∙ ap (λ (x : ℕ). plan_with c n t u x) kl

module _ (conf : Settings) (last : ℕ) (place : Place) (spec : JobSpec) (limits : IsWithinLimits conf) (few : last < 10 ^ 10) (is_there : IsInTable place) (job : IsJobOf conf last place spec) where
  pub in_limits : IsInLimits spec
  in_limits =
      let name : length spec.folder ≡ 1 = ap (λ (names : Names). length names) job.folder in
      let inputs : length spec.inputs.items ≡ length (paths_read conf last place) = ap (λ (paths : List Names). length paths) job.inputs in
      let most = few_paths conf last place limits.reducers.1 in
      let words = some_words conf place in
      record {
        some_names = omega (arith, name);
        few_names = omega (arith, name);
        few_inputs = omega (arith, inputs, most);
        map = subst (λ (ws : List (List ℕ)). 1 ≤ length ws) (sym job.map) words.0;
        reduce = subst (λ (ws : List (List ℕ)). 1 ≤ length ws) (sym job.reduce) words.1;
        some_reducers = let is = job.reducers in let least = limits.reducers.0 in omega (arith, is, least);
        few_reducers = let is = job.reducers in let most = limits.reducers.1 in omega (arith, is, most);
        some_bytes = let is = job.split in let least = limits.split.0 in omega (arith, is, least);
        few_bytes = let is = job.split in let most = limits.split.1 in omega (arith, is, most);
        some_slots = let is = job.slots in let least = limits.slots.0 in omega (arith, is, least);
      }

  outside_all : (s : State) → All (HasFile s) spec.inputs.items → AreOutside spec.folder spec.inputs.items s
  outside_all s there =
      let apart : All (λ path. under (folder_of place) path ≡ false) spec.inputs.items = subst (λ (paths : List Names). All (λ path. under (folder_of place) path ≡ false) paths) (sym job.inputs) (paths_outside conf last place few is_there) in
      let outside : All (λ path. under spec.folder path ≡ false) spec.inputs.items = subst (λ (folder : Names). All (λ path. under folder path ≡ false) spec.inputs.items) (sym job.folder) apart in
      λ k d below. (there k d below, outside k d below)

  pub plan_is : (d e : State) → IsAsAt d e → All (HasFile d) spec.inputs.items → plan_of spec e ≡ plan_for conf place (bytes_at_each d (paths_read conf last place))
  plan_is d e same there =
      same_plan (bytes_at_each e spec.inputs.items) (bytes_at_each d (paths_read conf last place)) spec.map (map_words conf place) spec.reduce (reduce_words conf place) spec.split conf.split spec.reducers conf.reducers (bytes_outside spec.folder d e spec.inputs.items (λ q apart. same q) (outside_all d there) ∙ ap (bytes_at_each d) job.inputs) job.map job.reduce job.split job.reducers

  still_files : (d e : State) → IsAsAt d e → All (HasFile d) spec.inputs.items → All (HasFile e) spec.inputs.items
  still_files d e same there k default below =
      let file = there k default below in
      (file.0, ap (λ (h : Held). h.now) (same _) ∙ file.1)

  still_unmarked : (d e : State) → IsAsAt d e → IsUnmarked (folder_of place) d → IsUnmarked spec.folder e
  still_unmarked d e same unmarked =
      subst (λ (folder : Names). IsUnmarked folder e) (sym job.folder) (λ content allowed. unmarked content (subst (λ (h : Held). Allows h.may content) (same (success_of (folder_of place))) allowed))

  open_top : (s : State) → (s []).now ≡ None → IsOpen s spec.folder
  open_top s none = subst (λ (folder : Names). IsOpen s folder) (sym job.folder) (λ q above proper. at q above proper)
    where
      at : (q : Names) → under q (folder_of place) ≡ true → same_path q (folder_of place) ≡ false → (s q).now ≡ None
      at [] above proper = none
      at (name ∷ []) above proper =
          absurd (false≢true (sym proper ∙ subst (λ (p : Names). same_path p (folder_of place) ≡ true) (sym (under-antisymm (name ∷ []) (folder_of place) above (under-long_back name above))) (same_path-refl (folder_of place))))
        where
          under-long_back : (n : List ℕ) → under (n ∷ []) (folder_of place) ≡ true → under (folder_of place) (n ∷ []) ≡ true
          under-long_back n is = under-same (folder_of place) (n ∷ []) (same_path_comm (folder_of place) (n ∷ []) ∙ is)
      at (name ∷ other ∷ names) above proper =
          let short = under-short (name ∷ other ∷ names) (folder_of place) above in absurd (omega (arith, short))

  pub can_begin : (d e : State) → IsAsAt d e → (e []).now ≡ None → IsUnmarked (folder_of place) d → All (HasFile d) spec.inputs.items → CanBegin spec e
  can_begin d e same top unmarked there =
      record {
        unmarked = still_unmarked d e same unmarked;
        is_open = open_top e top;
        inputs = outside_all e (still_files d e same there);
      }

  module _ (gives : List (List ℕ) → List ℕ → List ℕ) (d e f : Told) (looks : Through (Both (IsAsAt (files d))) d e) (unmarked : IsUnmarked (folder_of place) (files d)) (there : All (HasFile (files d)) spec.inputs.items) where
    abbrev parts : List (List ℕ)
    parts = parts_from gives conf last place (files d)

    same_parts : job_parts gives (plan_of spec (files e)) ≡ parts
    same_parts = ap (job_parts gives) (plan_is (files d) (files e) (same_after d e looks) there)

    pub made_steps : Through (Makes spec.folder (job_parts gives (plan_of spec (files e))) (files e)) e f → Through (Makes (folder_of place) parts (files d)) d f
    made_steps steps =
        let same = same_after d e looks in
        let at_place : Through (Makes (folder_of place) (job_parts gives (plan_of spec (files e))) (files e)) e f = subst (λ (folder : Names). Through (Makes folder (job_parts gives (plan_of spec (files e))) (files e)) e f) job.folder steps in
        let with_parts : Through (Makes (folder_of place) parts (files e)) e f = subst (λ (ps : List (List ℕ)). Through (Makes (folder_of place) ps (files e)) e f) same_parts at_place in
        then_goes (Makes (folder_of place) parts (files d)) d e f (looks_make (folder_of place) parts d e unmarked looks) (weaker (Makes (folder_of place) parts (files e)) (Makes (folder_of place) parts (files d)) e f (λ s t makes. record { images = makes.images; outside = (λ q apart. makes.outside.0 q apart ∙ same q, λ q apart. makes.outside.1 q apart ∙ same q) }) with_parts)

    pub made_finished : IsFinished spec.folder (job_parts gives (plan_of spec (files e))) (files f) → IsFinished (folder_of place) parts (files f)
    made_finished finished =
        subst (λ (ps : List (List ℕ)). IsFinished (folder_of place) ps (files f)) same_parts (subst (λ (folder : Names). IsFinished folder (job_parts gives (plan_of spec (files e))) (files f)) job.folder finished)
