-- The next iteration may be made, and what its jobs read is there.
use Rattle.std.proofs.Common.{◌≡◌, ◌≢◌, ℕ, ◌+◌, ◌-◌, ◌*◌, ◌^◌, ◌<◌, ◌≤◌, Bool, true, false, if◌then◌else◌, ◌⊎◌, inl, inr, ⊎_elim, List, [], ◌∷◌, refl, sym, ◌∙◌, ap, subst, arith}
use Rattle.std.specs.Prelude.{IsSome, IfSome, None, Some, Option, unwrap_or, Result, Ok, Err, IfOk}
use Rattle.std.specs.List.{AllByRecursion}
use Rattle.std.proofs.lemmas.Bool.{false≢true, cases_lt}
use Rattle.peg_base.specs.Names.{Names, same_path}
use Rattle.peg_base.proofs.Under.{same_path-refl, same_path-true}
use Rattle.peg_base.proofs.Under.{under-append}
use Rattle.dir_disk.specs.State.{Allows, Content, State, Image, Fits, IsSound, StandsOutside}
use Rattle.dir_disk.specs.Moments.{Told, Through, Both, EachImage, files}
use Rattle.dir_disk.proofs.Through.{weaker, at_end}
use Rattle.committer.specs.Paths.{success_name, success_of}
use Rattle.committer.specs.Folders.{Drops, IsEmpty}
use Rattle.job.specs.Inputs.{bytes_at_each}
use Rattle.job.specs.Whole.{HasOutputIfWhole}
use Rattle.conf.specs.declared.commands.Form.{Form}
use Rattle.conf.specs.Rules.{is_clustered}
use Rattle.conf.specs.declared.commands.Form.TheVariants.{Base, Block, Clustered, Diagonal}
use Rattle.mining.specs.declared.place.Place.{Place}
use Rattle.mining.specs.declared.place.Place.TheVariants.{Conf, Edges, Nodes, Placed, Matrix, Blocks, Messages, Vector, Joined, Results}
use Rattle.mining.specs.Places.{folder_of, IsInTable, is_made, is_messages, is_sealed, rank_of}
use Rattle.mining.specs.Table.{inputs_of, matrix_for, part_paths}
use Rattle.mining.specs.Flow.{Mining, changes_in, count_of, flow, last_of, total_in}
use Rattle.mining.specs.Kept.{AllKept, Has, Kept, IsUpTo, Precedes}
use Rattle.mining.specs.Between.{AllFirm, CanRead, IsDue, IsSure, KeepsWhole}
use Rattle.mining.proofs.Flows.{inputs_of_messages, inputs_of_vector, vector_flow}
use Rattle.mining.proofs.Making.{drops_makes}
use Rattle.mining.proofs.Keeping.{IsLoose, loose_job, makes_keep}
use Rattle.mining.specs.Iterations.{IsNext}
use Rattle.mining.proofs.EnsureLemmas.{firm_after, folder_has_flow, outside_keeps, sure_kept}

-- ---- what precedes a sure folder is sure

changed_at : Names → Content → State → Image
changed_at mark content s q = if same_path mark q then content else (s q).now

changed_fits : (mark : Names) (content : Content) (s : State) → IsSound s → Allows (s mark).may content → Fits s (changed_at mark content s)
unfolding changed_at
changed_fits mark content s sound allowed q = at (same_path mark q) refl
  where
    at : (test : Bool) → same_path mark q ≡ test → Allows (s q).may (if test then content else (s q).now)
    at true same = subst (λ (r : Names). Allows (s r).may content) (same_path-true mark q same) allowed
    at false other = sound q

at_changed : (mark : Names) (content : Content) (s : State) → changed_at mark content s mark ≡ content
unfolding changed_at
at_changed mark content s = ap (λ (test : Bool). if test then content else (s mark).now) (same_path-refl mark)

pub sure_before : (mining : Mining) (earlier place : Place) (s : State) → IsSound s → AllKept mining s → IsInTable place → is_made mining.conf.form place ≡ true → Precedes mining earlier place → IsSure place s → IsSure earlier s
sure_before mining earlier place s sound kept is_there made precedes sure content allowed =
    let mark = success_of (folder_of earlier) in
    let image : Image = changed_at mark content s in
    let fits : Fits s image = changed_fits mark content s sound allowed in
    let has : Has place image = sure (image (success_of (folder_of place))) (fits (success_of (folder_of place))) in
    subst IsSome (at_changed mark content s) ((kept image fits).order place earlier is_there made precedes has)

-- ---- the next iteration

near : (k : ℕ) (earlier : Place) → 1 ≤ k → k < 10 ^ 10 → is_messages earlier ≡ false → rank_of earlier < 7 + 2 * k → (earlier ≡ Vector (k - 1)) ⊎ (rank_of earlier < rank_of (Vector (k - 1)))
unfolding rank_of
near k Conf some few stays less = inr (omega arith)
near k Edges some few stays less = inr (omega arith)
near k Nodes some few stays less = inr (omega arith)
near k Placed some few stays less = inr (omega arith)
near k Matrix some few stays less = inr (omega arith)
near k Blocks some few stays less = inr (omega arith)
near k (Messages j) some few stays less = absurd (false≢true (sym stays))
near k (Vector j) some few stays less =
    ⊎_elim (λ below. inr (omega (arith, below))) (λ above. inl (ap Vector (omega (arith, above, less)))) (cases_lt j (k - 1))
near k Joined some few stays less = absurd (omega (arith, less, few))
near k Results some few stays less = absurd (omega (arith, less, few))

-- what a form multiplies by
record IsMatrix (form : Form) (place : Place) : Type 0 where
  rank : rank_of place ≤ 5
  is_there : IsInTable place
  made : is_made form place ≡ true
  stays : is_messages place ≡ false
  up_to : (last : Option ℕ) → IsUpTo last place
  not_conf : place ≢ Conf

is_matrix : (form : Form) → IsMatrix form (matrix_for form)
unfolding rank_of
is_matrix Base = record { rank = omega arith; is_there = tt; made = refl; stays = refl; up_to = λ last. tt; not_conf = λ is. false≢true (ap is_sealed is) }
is_matrix Block = record { rank = omega arith; is_there = tt; made = refl; stays = refl; up_to = λ last. tt; not_conf = λ is. false≢true (ap is_sealed is) }
is_matrix Clustered = record { rank = omega arith; is_there = tt; made = refl; stays = refl; up_to = λ last. tt; not_conf = λ is. false≢true (ap is_sealed is) }
is_matrix Diagonal = record { rank = omega arith; is_there = tt; made = refl; stays = refl; up_to = λ last. tt; not_conf = λ is. false≢true (ap is_sealed is) }

pub next_kept : (mining : Mining) (k : ℕ) (s t : State) → KeepsWhole s t → IsNext mining k s → IsNext mining k t
next_kept mining k s t keeps next =
    let some = next.some in
    let few = next.few in
    record { some = next.some; few = next.few; before = sure_kept (Vector (k - 1)) s t (omega (arith, some, few)) refl keeps next.before; may = next.may }

module _ (mining : Mining) (k : ℕ) (s : State) (sound : IsSound s) (kept : AllKept mining s) (next : IsNext mining k s) where
  some : 1 ≤ k
  some = next.some

  few : k < 10 ^ 10
  few = next.few

  before_is_there : IsInTable (Vector (k - 1))
  before_is_there = omega (arith, some, few)

  before_sure : (earlier place : Place) → rank_of place ≤ 7 + 2 * k → Precedes mining earlier place → IsSure earlier s
  before_sure earlier place low precedes =
      let less = precedes.before in
      ⊎_elim (λ is. subst (λ (p : Place). IsSure p s) (sym is) next.before) (λ lower. sure_before mining earlier (Vector (k - 1)) s sound kept before_is_there refl (record { before = lower; is_there = precedes.is_there; made = precedes.made; stays = precedes.stays; up_to = precedes.up_to }) next.before) (near k earlier some few precedes.stays (omega (arith, less, low)))

  pub due_messages : IsDue mining (Messages k) s
  unfolding rank_of
  due_messages =
      record { is_there = (next.some, next.few); made = refl; may = next.may; before = λ earlier precedes. before_sure earlier (Messages k) (omega arith) precedes }

  pub due_vector : IsDue mining (Vector k) s
  unfolding rank_of
  due_vector =
      record { is_there = next.few; made = refl; may = next.may; before = λ earlier precedes. before_sure earlier (Vector k) (omega arith) precedes }

  matrix_sure : IsSure (matrix_for mining.conf.form) s
  unfolding rank_of
  matrix_sure =
      let matrix = is_matrix mining.conf.form in
      let low = matrix.rank in
      before_sure (matrix_for mining.conf.form) (Vector k) (omega arith) (record { before = omega (arith, low); is_there = matrix.is_there; made = matrix.made; stays = matrix.stays; up_to = matrix.up_to (last_of mining) })

  pub read_messages : (last : ℕ) → CanRead mining last (Messages k) s
  read_messages last =
      let form = mining.conf.form in
      let matrix = is_matrix form in
      record {
        same = inputs_of_messages form last k some ∙ sym (inputs_of_messages form (unwrap_or (last_of mining) 0) k some);
        inputs = subst (λ (places : List Place). AllByRecursion (λ input. IsInTable input × (input ≢ Conf) × IsSure input s) places) (sym (inputs_of_messages form last k some)) ((matrix.is_there, matrix.not_conf, matrix_sure), ((before_is_there, λ is. false≢true (ap is_sealed is), next.before), tt));
      }

  pub read_vector : (last : ℕ) → IsSure (Messages k) s → CanRead mining last (Vector k) s
  read_vector last messages =
      let form = mining.conf.form in
      record {
        same = inputs_of_vector form last k some ∙ sym (inputs_of_vector form (unwrap_or (last_of mining) 0) k some);
        inputs = subst (λ (places : List Place). AllByRecursion (λ input. IsInTable input × (input ≢ Conf) × IsSure input s) places) (sym (inputs_of_vector form last k some)) (((next.some, next.few), λ is. false≢true (ap is_sealed is), messages), tt);
      }

-- ---- messages are dropped

messages_not_conf : (k : ℕ) → Messages k ≢ Conf
messages_not_conf k is = false≢true (ap is_sealed is)

module _ (k : ℕ) (folder : Names) (at_place : folder ≡ folder_of (Messages k)) (d f : Told) (sound : IsSound (files d)) (is_there : IsInTable (Messages k)) (steps : Through (Drops folder (files d)) d f) where
  drops_here : Through (Drops (folder_of (Messages k)) (files d)) d f
  drops_here = subst (λ (names : Names). Through (Drops names (files d)) d f) at_place steps

  pub drops_stay : Through (Both (KeepsWhole (files d))) d f
  drops_stay =
      weaker (Drops (folder_of (Messages k)) (files d)) (Both (KeepsWhole (files d))) d f (λ s t drops. (outside_keeps (Messages k) (files d) s sound is_there (inl refl) drops.less.0.outside, outside_keeps (Messages k) (files d) t sound is_there (inl refl) drops.less.1.outside)) drops_here

  pub drops_keep : (mining : Mining) → AllKept mining (files d) → IsNext mining k (files d) → Through (EachImage (Kept mining)) d f
  drops_keep mining kept next =
      let place = Messages k in
      let held : (image : Image) → Fits (files d) image → HasOutputIfWhole (folder_of place) (flow mining place) image = λ image fits. (kept image fits).contents place is_there (messages_not_conf k) in
      let loose : IsLoose mining place (files d) = loose_job mining place (files d) refl (inl refl) in
      weaker (Drops (folder_of place) (files d)) (EachImage (Kept mining)) d f (λ s t drops. makes_keep mining place (files d) s t sound kept (due_messages mining k (files d) sound kept next) loose (drops_makes (folder_of place) (flow mining place) (files d) s t sound held drops)) drops_here

  pub drops_firm : AllFirm (files d) → IsEmpty folder (files f) → AllFirm (files f)
  drops_firm firm empty =
      let place = Messages k in
      let outside : StandsOutside (folder_of place) (files d) (files f) = at_end (Drops (folder_of place) (files d)) (StandsOutside (folder_of place) (files d)) d f drops_here (λ q apart. refl) (λ s t drops. drops.less.1.outside) in
      let gone : IsEmpty (folder_of place) (files f) = subst (λ (names : Names). IsEmpty names (files f)) at_place empty in
      firm_after place (files d) (files f) None is_there firm outside (gone (success_of (folder_of place)) (under-append (folder_of place) (success_name ∷ [])))

-- ---- a vector's count

pub if_ok : {T E : Type 0} (P Q : T → Type 0) (result : Result T E) → ((x : T) → P x → Q x) → IfOk result P → IfOk result Q
if_ok P Q (Ok value) weak holds = weak value holds
if_ok P Q (Err error) weak holds = holds

pub count_is : (mining : Mining) (k : ℕ) (s : State) → IsSound s → AllKept mining s → k < 10 ^ 10 → IsSure (Vector k) s → changes_in (bytes_at_each s (part_paths (Vector k) mining.conf.reducers)) ≡ count_of mining k
count_is mining k s sound kept few sure =
    ap changes_in (folder_has_flow mining (Vector k) s sound kept few (λ is. false≢true (ap is_sealed is)) sure ∙ vector_flow mining k)

-- ---- the result

near_result : (mining : Mining) (l : ℕ) (earlier : Place) → l < 10 ^ 10 → last_of mining ≡ Some l → is_clustered mining.conf.form ≡ false → Precedes mining earlier Results → (earlier ≡ Vector l) ⊎ (rank_of earlier < rank_of (Vector l))
unfolding rank_of
near_result mining l Conf few last form precedes = inr (omega arith)
near_result mining l Edges few last form precedes = inr (omega arith)
near_result mining l Nodes few last form precedes = inr (omega arith)
near_result mining l Placed few last form precedes = inr (omega arith)
near_result mining l Matrix few last form precedes = inr (omega arith)
near_result mining l Blocks few last form precedes = inr (omega arith)
near_result mining l (Messages j) few last form precedes = absurd (false≢true (sym precedes.stays))
near_result mining l (Vector j) few last form precedes =
    let up_to : j ≤ l = subst (λ (o : Option ℕ). IfSome o (λ m. j ≤ m)) last precedes.up_to in
    ⊎_elim (λ below. inr (omega (arith, below))) (λ above. inl (ap Vector (omega (arith, above, up_to)))) (cases_lt j l)
near_result mining l Joined few last form precedes = absurd (false≢true (sym form ∙ precedes.made))
near_result mining l Results few last form precedes = absurd (let before = precedes.before in omega (arith, before))

module _ (mining : Mining) (l : ℕ) (s : State) (sound : IsSound s) (kept : AllKept mining s) (few : l < 10 ^ 10) (last : last_of mining ≡ Some l) (form : is_clustered mining.conf.form ≡ false) (sure : IsSure (Vector l) s) where
  pub due_results : IsDue mining Results s
  due_results =
      record {
        is_there = tt;
        made = refl;
        may = subst (λ (o : Option ℕ). IsSome o) (sym last) refl;
        before = λ earlier precedes. ⊎_elim (λ is. subst (λ (p : Place). IsSure p s) (sym is) sure) (λ lower. sure_before mining earlier (Vector l) s sound kept few refl (record { before = lower; is_there = precedes.is_there; made = precedes.made; stays = precedes.stays; up_to = precedes.up_to }) sure) (near_result mining l earlier few last form precedes);
      }

  numbers_are : (f : Form) → is_clustered f ≡ false → inputs_of f l Results ≡ Vector l ∷ []
  numbers_are Base plain = refl
  numbers_are Block plain = refl
  numbers_are Clustered plain = absurd (false≢true (sym plain))
  numbers_are Diagonal plain = refl

  pub read_results : CanRead mining l Results s
  read_results =
      record {
        same = ap (λ (o : Option ℕ). inputs_of mining.conf.form (unwrap_or o 0) Results) (sym last);
        inputs = subst (λ (places : List Place). AllByRecursion (λ input. IsInTable input × (input ≢ Conf) × IsSure input s) places) (sym (numbers_are mining.conf.form form)) ((few, λ is. false≢true (ap is_sealed is), sure), tt);
      }

pub total_is : (mining : Mining) (s : State) → IsSound s → AllKept mining s → IsSure Results s → total_in mining.conf.command (bytes_at_each s (part_paths Results mining.conf.reducers)) ≡ total_in mining.conf.command (flow mining Results)
total_is mining s sound kept sure =
    ap (total_in mining.conf.command) (folder_has_flow mining Results s sound kept tt (λ is. false≢true (ap is_sealed is)) sure)
