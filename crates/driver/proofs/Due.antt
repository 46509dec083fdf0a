-- The folders before the iterations may be made, and an iteration that is whole may be taken up.
use Rattle.std.proofs.Common.{◌≡◌, ◌≢◌, ℕ, ◌-◌, ◌^◌, ◌<◌, ◌≤◌, true, false, ◌⊎◌, inl, inr, ⊎_elim, List, None, Some, refl, sym, ◌∙◌, ap, subst, arith}
use Rattle.std.specs.Prelude.{IfSome, Option}
use Rattle.std.specs.List.{AllByRecursion}
use Rattle.std.proofs.lemmas.Bool.{false≢true}
use Rattle.dir_disk.specs.State.{State, IsSound}
use Rattle.committer.specs.Folders.{IsUnmarked}
use Rattle.committer.specs.Paths.{success_of}
use Rattle.conf.specs.declared.commands.Form.{Form}
use Rattle.conf.specs.declared.commands.Form.TheVariants.{Base}
use Rattle.conf.specs.Texts.{text_of}
use Rattle.job.specs.Whole.{HasOutput}
use Rattle.mining.specs.declared.place.Place.{Place}
use Rattle.mining.specs.declared.place.Place.TheVariants.{Conf, Edges, Nodes, Placed, Matrix, Blocks, Messages, Vector, Joined, Results}
use Rattle.mining.specs.Places.{folder_of, IsInTable, is_made, rank_of}
use Rattle.mining.specs.Table.{inputs_of}
use Rattle.mining.specs.Flow.{Mining, last_of}
use Rattle.mining.specs.Kept.{AllKept, MayBeWhole, Precedes}
use Rattle.mining.specs.Between.{CanRead, IsDue, IsSure}
use Rattle.mining.proofs.Flows.{flow_sealed}
use Rattle.mining.proofs.Keeping.{IsLoose}
use Rattle.mining.specs.Iterations.{IsNext}
use Rattle.mining.proofs.DueLemmas.{sure_before}
use Rattle.store.specs.Sealed.{IsMade}
use Rattle.driver.proofs.Sealing.{made_output, made_sure}

-- only `conf` is `conf`
pub edges_not_conf : Edges ≡ Conf → ⊥
unfolding rank_of
edges_not_conf is = let ranks = ap rank_of is in omega (arith, ranks)

pub nodes_not_conf : Nodes ≡ Conf → ⊥
unfolding rank_of
nodes_not_conf is = let ranks = ap rank_of is in omega (arith, ranks)

module _ (mining : Mining) (form : mining.conf.form ≡ Base) where
  not_made : (place : Place) → is_made Base place ≡ false → is_made mining.conf.form place ≡ true → ⊥
  not_made place fails made =
      false≢true (sym fails ∙ subst (λ (f : Form). is_made f place ≡ true) form made)

  -- each folder that comes before it is the one right before it, or comes before that
  abbrev Follows : Place → Place → Type 0
  Follows before place = (earlier : Place) → Precedes mining earlier place → (earlier ≡ before) ⊎ (rank_of earlier < rank_of before)

  pub matrix_follows : Follows Nodes Matrix
  unfolding rank_of
  matrix_follows Conf precedes = inr (omega arith)
  matrix_follows Edges precedes = inr (omega arith)
  matrix_follows Nodes precedes = inl refl
  matrix_follows Placed precedes = absurd (not_made Placed refl precedes.made)
  matrix_follows Matrix precedes = absurd (let less = precedes.before in omega (arith, less))
  matrix_follows Blocks precedes = absurd (let less = precedes.before in omega (arith, less))
  matrix_follows (Messages k) precedes = absurd (let less = precedes.before in omega (arith, less))
  matrix_follows (Vector k) precedes = absurd (let less = precedes.before in omega (arith, less))
  matrix_follows Joined precedes = absurd (let less = precedes.before in omega (arith, less))
  matrix_follows Results precedes = absurd (let less = precedes.before in omega (arith, less))

  pub first_follows : Follows Matrix (Vector 0)
  unfolding rank_of
  first_follows Conf precedes = inr (omega arith)
  first_follows Edges precedes = inr (omega arith)
  first_follows Nodes precedes = inr (omega arith)
  first_follows Placed precedes = inr (omega arith)
  first_follows Matrix precedes = inl refl
  first_follows Blocks precedes = absurd (not_made Blocks refl precedes.made)
  first_follows (Messages k) precedes = absurd (false≢true (sym precedes.stays))
  first_follows (Vector k) precedes = absurd (let less = precedes.before in omega (arith, less))
  first_follows Joined precedes = absurd (let less = precedes.before in omega (arith, less))
  first_follows Results precedes = absurd (let less = precedes.before in omega (arith, less))

module _ (mining : Mining) where
  pub nodes_follow : (earlier : Place) → Precedes mining earlier Nodes → (earlier ≡ Edges) ⊎ (rank_of earlier < rank_of Edges)
  unfolding rank_of
  nodes_follow Conf precedes = inr (omega arith)
  nodes_follow Edges precedes = inl refl
  nodes_follow Nodes precedes = absurd (let less = precedes.before in omega (arith, less))
  nodes_follow Placed precedes = absurd (let less = precedes.before in omega (arith, less))
  nodes_follow Matrix precedes = absurd (let less = precedes.before in omega (arith, less))
  nodes_follow Blocks precedes = absurd (let less = precedes.before in omega (arith, less))
  nodes_follow (Messages k) precedes = absurd (let less = precedes.before in omega (arith, less))
  nodes_follow (Vector k) precedes = absurd (let less = precedes.before in omega (arith, less))
  nodes_follow Joined precedes = absurd (let less = precedes.before in omega (arith, less))
  nodes_follow Results precedes = absurd (let less = precedes.before in omega (arith, less))

  edges_follow : (earlier : Place) → Precedes mining earlier Edges → earlier ≡ Conf
  unfolding rank_of
  edges_follow Conf precedes = refl
  edges_follow Edges precedes = absurd (let less = precedes.before in omega (arith, less))
  edges_follow Nodes precedes = absurd (let less = precedes.before in omega (arith, less))
  edges_follow Placed precedes = absurd (let less = precedes.before in omega (arith, less))
  edges_follow Matrix precedes = absurd (let less = precedes.before in omega (arith, less))
  edges_follow Blocks precedes = absurd (let less = precedes.before in omega (arith, less))
  edges_follow (Messages k) precedes = absurd (let less = precedes.before in omega (arith, less))
  edges_follow (Vector k) precedes = absurd (let less = precedes.before in omega (arith, less))
  edges_follow Joined precedes = absurd (let less = precedes.before in omega (arith, less))
  edges_follow Results precedes = absurd (let less = precedes.before in omega (arith, less))

  -- a folder is due once the one right before it is whole
  pub due_after : (before place : Place) (s : State) → IsSound s → AllKept mining s → IsInTable before → is_made mining.conf.form before ≡ true → IsInTable place → is_made mining.conf.form place ≡ true → MayBeWhole (last_of mining) place → ((earlier : Place) → Precedes mining earlier place → (earlier ≡ before) ⊎ (rank_of earlier < rank_of before)) → IsSure before s → IsDue mining place s
  due_after before place s sound kept before_there before_made is_there made may follows sure =
      record {
        is_there = is_there;
        made = made;
        may = may;
        before = λ earlier precedes. ⊎_elim (λ is. subst (λ (p : Place). IsSure p s) (sym is) sure) (λ lower. sure_before mining earlier before s sound kept before_there before_made (record { before = lower; is_there = precedes.is_there; made = precedes.made; stays = precedes.stays; up_to = precedes.up_to }) sure) (follows earlier precedes);
      }

  pub due_edges : (s : State) → IsMade (folder_of Conf) (text_of mining.conf) s → IsDue mining Edges s
  due_edges s conf =
      record { is_there = tt; made = refl; may = tt; before = λ earlier precedes. subst (λ (p : Place). IsSure p s) (sym (edges_follow earlier precedes)) (made_sure Conf (text_of mining.conf) s conf) }

  pub loose_edges : (s : State) → IsUnmarked (folder_of Edges) s → IsMade (folder_of Conf) (text_of mining.conf) s → IsLoose mining Edges s
  loose_edges s unmarked conf =
      record {
        no_edges = λ is. absurd (edges_not_conf is);
        has_conf = λ is image fits. (made_sure Conf (text_of mining.conf) s conf (image (success_of (folder_of Conf))) (fits (success_of (folder_of Conf))), subst (λ (parts : List (List ℕ)). HasOutput (folder_of Conf) parts image) (sym (flow_sealed mining Conf refl)) (made_output Conf (text_of mining.conf) s image conf fits));
        loose = inr (inl unmarked);
      }

  pub loose_nodes : (s : State) → IsUnmarked (folder_of Nodes) s → IsLoose mining Nodes s
  unfolding rank_of
  loose_nodes s unmarked =
      record {
        no_edges = λ is. absurd (let ranks = ap rank_of is in omega (arith, ranks));
        has_conf = λ is. absurd (let ranks = ap rank_of is in omega (arith, ranks));
        loose = inr (inl unmarked);
      }

  -- an iteration that is whole may be taken up
  pub next_here : (k : ℕ) (s : State) → IsSound s → AllKept mining s → 1 ≤ k → k < 10 ^ 10 → IsSure (Vector k) s → IsNext mining k s
  unfolding rank_of
  next_here k s sound kept some few sure =
      record {
        some = some;
        few = few;
        may = may;
        before = sure_before mining (Vector (k - 1)) (Vector k) s sound kept few refl (record { before = omega (arith, some); is_there = omega (arith, few); made = refl; stays = refl; up_to = lower (last_of mining) may }) sure;
      }
    where
      may : IfSome (last_of mining) (λ l. k ≤ l)
      may = (kept (λ q. (s q).now) sound).bounds (Vector k) few (sure (s (success_of (folder_of (Vector k)))).now (sound (success_of (folder_of (Vector k)))))

      lower : (o : Option ℕ) → IfSome o (λ l. k ≤ l) → IfSome o (λ l. k - 1 ≤ l)
      lower None up_to = up_to
      lower (Some l) up_to = omega (arith, up_to)

  -- iteration 0 is none after the last one
  pub first_may : MayBeWhole (last_of mining) (Vector 0)
  first_may = least (last_of mining)
    where
      least : (o : Option ℕ) → IfSome o (λ l. 0 ≤ l)
      least None = tt
      least (Some l) = omega arith

  pub read_first : (last : ℕ) (s : State) → IsSound s → AllKept mining s → IsSure Matrix s → CanRead mining last (Vector 0) s
  unfolding rank_of
  read_first last s sound kept matrix =
      let nodes : IsSure Nodes s = sure_before mining Nodes Matrix s sound kept tt refl (record { before = omega arith; is_there = tt; made = refl; stays = refl; up_to = tt }) matrix in
      record { same = refl; inputs = ((tt, λ is. nodes_not_conf is, nodes), tt) }

  pub read_matrix : mining.conf.form ≡ Base → (last : ℕ) (s : State) → IsSound s → AllKept mining s → IsSure Nodes s → CanRead mining last Matrix s
  unfolding rank_of
  read_matrix form last s sound kept nodes =
      let edges : IsSure Edges s = sure_before mining Edges Nodes s sound kept tt refl (record { before = omega arith; is_there = tt; made = refl; stays = refl; up_to = tt }) nodes in
      record { same = refl; inputs = subst (λ (f : Form). AllByRecursion (λ input. IsInTable input × (input ≢ Conf) × IsSure input s) (inputs_of f last Matrix)) (sym form) ((tt, λ is. edges_not_conf is, edges), tt) }
