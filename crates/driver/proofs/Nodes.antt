-- The nodes are written unless they are there.
use Rattle.std.proofs.Common.{◌≡◌, ◌∷◌, [], List, ℕ, inr, refl, sym, subst}
use Rattle.std.specs.Prelude.{Result, OnOk}
use Rattle.dir_disk.specs.State.{IsSound}
use Rattle.dir_disk.specs.Moments.{Both, EachImage, Through, Told, files}
use Rattle.dir_disk.proofs.Through.{then_goes, weaker}
use Rattle.committer.specs.Folders.{IsUnmarked}
use Rattle.job.specs.Whole as Job
use Rattle.mining.specs.declared.place.Place.TheVariants.{Edges, Nodes}
use Rattle.mining.specs.Places.{folder_of}
use Rattle.mining.specs.Flow.{Mining}
use Rattle.mining.specs.Kept.{AllKept, Kept}
use Rattle.mining.specs.Between.{AllFirm, IsSure, KeepsWhole}
use Rattle.mining.proofs.EnsureLemmas.{as_same, looks_stay, makes_stay, on_ok, stays_then}
use Rattle.store.specs.Sealed.{IsMade, Makes, nodes_text}
use Rattle.driver.proofs.Due.{due_after, loose_nodes, nodes_follow}
use Rattle.driver.proofs.Sealing.{made_firm, makes_outside, outside_after, seals_keep, text_makes}
use Rattle.mining.proofs.Wholes.{same_state}
use Rattle.driver.proofs.Settling.{same_keeps}

module _ (d e f : Told) (looks : Through (Both (λ s. s ≡ files d)) d e) where
  pub sure_then : IsSure Edges (files d) → IsSure Edges (files e)
  sure_then sure = subst (IsSure Edges) (sym (same_state d e looks)) sure

  pub kept_then : (mining : Mining) → AllKept mining (files d) → AllKept mining (files e)
  kept_then mining kept = subst (AllKept mining) (sym (same_state d e looks)) kept

  pub nodes_kept : (mining : Mining) → IsSound (files e) → AllKept mining (files d) → IsSure Edges (files d) → IsUnmarked (folder_of Nodes) (files e) → Through (Makes (folder_of Nodes) (nodes_text mining.conf.nodes) (files e)) e f → Through (EachImage (Kept mining)) d f
  nodes_kept mining sound kept sure unmarked steps =
      then_goes (EachImage (Kept mining)) d e f (same_keeps mining d e kept looks) (seals_keep mining Nodes (nodes_text mining.conf.nodes) e f sound refl refl (kept_then mining kept) (due_after mining Edges Nodes (files e) sound (kept_then mining kept) tt refl tt refl tt (nodes_follow mining) (sure_then sure)) (loose_nodes mining (files e) unmarked) steps)

  pub nodes_stay : (text : List ℕ) → IsSound (files e) → IsUnmarked (folder_of Nodes) (files e) → Through (Makes (folder_of Nodes) text (files e)) e f → Through (Both (KeepsWhole (files d))) d f
  nodes_stay text sound unmarked steps =
      stays_then d e f (looks_stay d e (as_same d e looks)) (makes_stay Nodes (text ∷ []) e f sound tt (inr unmarked) (weaker (Makes (folder_of Nodes) text (files e)) (Job.Makes (folder_of Nodes) (text ∷ []) (files e)) e f (λ s t makes. text_makes (folder_of Nodes) text (files e) s t makes) steps))

pub nodes_firm : {T E : Type 0} (text : List ℕ) (e f : Told) (result : Result T E) → AllFirm (files e) → Through (Makes (folder_of Nodes) text (files e)) e f → OnOk result (IsMade (folder_of Nodes) text (files f)) → OnOk result (AllFirm (files f))
nodes_firm text e f result firm steps made =
    on_ok (IsMade (folder_of Nodes) text (files f)) (AllFirm (files f)) result (λ done. made_firm Nodes text (files e) (files f) tt firm (outside_after (folder_of Nodes) e f (makes_outside (folder_of Nodes) text e f steps)) done) made
