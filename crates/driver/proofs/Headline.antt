-- What is kept, said and done is that of the plain iteration, where the children are the bundled ones.
use Rattle.std.proofs.Common.{◌≡◌, ◌≢◌, sym, ◌∙◌, ap, subst, ℕ, List, Option, Some, inr}
use Rattle.std.specs.Prelude.{IfSome, unwrap_or}
use Rattle.dir_disk.specs.Moments.{EachImage, Through, Told, files}
use Rattle.dir_disk.specs.State.{IsSound}
use Rattle.dir_disk.specs.Streams.{AddsPart, added}
use Rattle.dir_disk.proofs.Through.{at_end, weaker}
use Rattle.graph.specs.declared.edges.Edge.{Edge}
use Rattle.edge_text.specs.Edges.{edges_of}
use Rattle.conf.specs.Limits.{IsWithinLimits}
use Rattle.conf.specs.declared.reading.Conf.{Conf as Settings}
use Rattle.committer.specs.Paths.{success_of}
use Rattle.mining.specs.declared.place.Place.TheVariants.{Results}
use Rattle.mining.specs.Places.{folder_of}
use Rattle.mining.specs.Flow.{last_of, mining_of, most_of}
use Rattle.mining.specs.Iterations.{console}
use Rattle.mining.specs.Kept.{AllKept, Kept}
use Rattle.flow.specs.Children.{FollowsChildren}
use Rattle.flow.specs.Held.{HoldsIterates, iterates_console}
use Rattle.flow.specs.Iterates.{IsBaseRun, IsLast, changed_of, total_after}
use Rattle.flow.specs.Laws.{AreCountable}
use Rattle.flow.proofs.Base.{command_sequence}
use Rattle.flow.proofs.Ends.{base_result}
use Rattle.flow.proofs.Files.{file_edges_are_countable}
use Rattle.flow.proofs.Held.{console_is_of_iterates, kept_holds_iterates, kept_holds_result}
use Rattle.driver.specs.Headline.{Asks, HasWritten, WhereverItStops}
use Rattle.driver.specs.Opening.{HasRun, IsFrom}
use Rattle.driver.specs.Running.{bytes_for}
use Rattle.driver.specs.declared.outcome.Outcome.{Outcome}
use Rattle.driver.specs.declared.outcome.Outcome.TheVariants.{BadStore, Done}
use Rattle.mining.specs.Stored.{IsNotAsMade}
use Rattle.mining.proofs.EnsureLemmas.{kept_after}
use Rattle.mining.proofs.StoredKept.{none_bad}
use Rattle.peg_base.specs.Names.{Names}
use Rattle.driver.proofs.RunLemmas.{DoneFor, KeptFor, SaidFor}

-- ---- what was shown for the bytes that are read

module _ (gives : List (List ℕ) → List ℕ → List ℕ) (tells : Type 0) (d f : Told) (before now : Option (List ℕ)) (result : Outcome) (words : List (List ℕ)) (left : Option (List ℕ)) (conf : Settings) (accepted : List Edge) (asks : Asks words left conf accepted) where
  pub kept_asked : KeptFor gives tells d f conf (bytes_for conf left) → tells → AllKept (mining_of gives conf accepted) (files d) → Through (EachImage (Kept (mining_of gives conf accepted))) d f
  kept_asked has =
      subst (λ (edges : List Edge). tells → AllKept (mining_of gives conf edges) (files d) → Through (EachImage (Kept (mining_of gives conf edges))) d f) (sym asks.edges)
      (subst (λ (read : Option (List ℕ)). IfSome read (λ bytes. tells → AllKept (mining_of gives conf (edges_of conf.nodes bytes).edges) (files d) → Through (EachImage (Kept (mining_of gives conf (edges_of conf.nodes bytes).edges))) d f)) asks.read (has asks.mines asks.form))

  pub said_asked : SaidFor gives tells d before now conf (bytes_for conf left) → (k : Option ℕ) (l : ℕ) → tells → AllKept (mining_of gives conf accepted) (files d) → IsFrom (most_of conf conf.command) (files d) k → last_of (mining_of gives conf accepted) ≡ Some l → AddsPart before now (console (mining_of gives conf accepted) k l)
  said_asked has =
      subst (λ (edges : List Edge). (k : Option ℕ) (l : ℕ) → tells → AllKept (mining_of gives conf edges) (files d) → IsFrom (most_of conf conf.command) (files d) k → last_of (mining_of gives conf edges) ≡ Some l → AddsPart before now (console (mining_of gives conf edges) k l)) (sym asks.edges)
      (subst (λ (read : Option (List ℕ)). IfSome read (λ bytes. (k : Option ℕ) (l : ℕ) → tells → AllKept (mining_of gives conf (edges_of conf.nodes bytes).edges) (files d) → IsFrom (most_of conf conf.command) (files d) k → last_of (mining_of gives conf (edges_of conf.nodes bytes).edges) ≡ Some l → AddsPart before now (console (mining_of gives conf (edges_of conf.nodes bytes).edges) k l))) asks.read (has asks.mines asks.form))

  pub done_asked : DoneFor gives tells d f before now result conf (bytes_for conf left) → (k : Option ℕ) → tells → AllKept (mining_of gives conf accepted) (files d) → IsFrom (most_of conf conf.command) (files d) k → result ≡ Done → HasRun (mining_of gives conf accepted) k before now (files f)
  done_asked has =
      subst (λ (edges : List Edge). (k : Option ℕ) → tells → AllKept (mining_of gives conf edges) (files d) → IsFrom (most_of conf conf.command) (files d) k → result ≡ Done → HasRun (mining_of gives conf edges) k before now (files f)) (sym asks.edges)
      (subst (λ (read : Option (List ℕ)). IfSome read (λ bytes. (k : Option ℕ) → tells → AllKept (mining_of gives conf (edges_of conf.nodes bytes).edges) (files d) → IsFrom (most_of conf conf.command) (files d) k → result ≡ Done → HasRun (mining_of gives conf (edges_of conf.nodes bytes).edges) k before now (files f))) asks.read (has asks.mines asks.form))

  -- ---- where the children are the bundled ones

  module _ (children : FollowsChildren gives) (limits : IsWithinLimits conf) where
    run : IsBaseRun conf
    run = record { limits = limits; mines = asks.mines; form = asks.form }

    good : AreCountable conf.nodes accepted
    good = subst (λ (edges : List Edge). AreCountable conf.nodes edges) (sym asks.edges) (file_edges_are_countable conf.nodes asks.bytes)

    pub iterates_asked : AllKept (mining_of gives conf accepted) (files d) → Through (EachImage (Kept (mining_of gives conf accepted))) d f → WhereverItStops (HoldsIterates conf accepted) d f
    iterates_asked kept through = (
      λ image fits. kept_holds_iterates gives children conf run accepted good image (kept image fits),
      weaker (EachImage (Kept (mining_of gives conf accepted))) (EachImage (HoldsIterates conf accepted)) d f (λ s t each image fits. kept_holds_iterates gives children conf run accepted good image (each image fits)) through,
    )

    pub console_asked : (k : Option ℕ) (last : ℕ) → IsLast conf (changed_of conf accepted) last → (last_of (mining_of gives conf accepted) ≡ Some last → AddsPart before now (console (mining_of gives conf accepted) k last)) → AddsPart before now (iterates_console conf accepted k last)
    console_asked k last first said =
        let same = console_is_of_iterates gives children conf run accepted good last first in
        subst (λ (text : List ℕ). AddsPart before now text) (same.1 k) (said same.0)

    pub written_asked : (k : Option ℕ) → AllKept (mining_of gives conf accepted) (files d) → Through (EachImage (Kept (mining_of gives conf accepted))) d f → HasRun (mining_of gives conf accepted) k before now (files f) → HasWritten conf accepted k before now (files f)
    written_asked k kept through done =
        let has = base_result gives children conf run accepted good in
        let same : has.last ≡ done.last = ap (λ (found : Option ℕ). unwrap_or found 0) (sym has.is_last ∙ done.is) in
        let first : IsLast conf (changed_of conf accepted) done.last = subst (IsLast conf (changed_of conf accepted)) same has.first in
        let all : AllKept (mining_of gives conf accepted) (files f) = at_end (EachImage (Kept (mining_of gives conf accepted))) (AllKept (mining_of gives conf accepted)) d f through kept (λ s t each image fits. each image (λ path. inr (fits path))) in
        let mark = success_of (folder_of Results) in record {
          last = done.last;
          is_last = first;
          said = done.said ∙ ap (λ (text : List ℕ). added before text) ((console_is_of_iterates gives children conf run accepted good done.last first).1 k);
          held = λ image fits. kept_holds_result gives children conf run accepted good image (all image fits) (done.result (image mark) (fits mark));
        }

    -- where what the bundled children wrote is kept, no place of it is bad
    pub unblamed_asked : IsSound (files f) → AllKept (mining_of gives conf accepted) (files d) → Through (EachImage (Kept (mining_of gives conf accepted))) d f → (path : Names) (line : ℕ) → (result ≡ BadStore path line → IsNotAsMade conf (files f) path line) → result ≢ BadStore path line
    unblamed_asked sound kept through path line stored is =
        let has = base_result gives children conf run accepted good in
        let counts = command_sequence gives children conf run accepted good in
        none_bad (mining_of gives conf accepted) (files f) sound (kept_after (mining_of gives conf accepted) d f kept through) has.last has.is_last (changed_of conf accepted) counts.count (total_after conf accepted has.last) has.total path line (stored is)
