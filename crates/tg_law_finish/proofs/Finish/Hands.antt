-- Where what a client has in hand stands, in a world that is ready: an append, a sync or a walk.
use Rattle.std.proofs.Common.{◌≡◌, ◌⊎◌, ℕ, zero, suc, ◌<◌, ◌≤◌, List, [], ◌∷◌, length, true, false, refl, sym, ap, ◌∙◌, subst, inl, inr, arith, Some, None, Option}
use Rattle.std.specs.Prelude.{Contains, slice_index, nat_lt}
use Rattle.tg_base.specs.Clusters.{Header}
use Rattle.tg_base.specs.Layouts.{Layout}
use Rattle.tg_base.specs.declared.cell.Cell.{Cell}
use Rattle.tg_base.specs.declared.cell.Cell.TheVariants.{Data}
use Rattle.tg_base.specs.declared.ids.Oid.{Oid}
use Rattle.tg_base.specs.declared.marks.StreamLink.{StreamLink}
use Rattle.tg_kind.specs.Meaning.{Meaning}
use Rattle.tg_protocol.specs.Words.{cell_at, cell_eq, client_id}
use Rattle.tg_protocol.specs.Layouts.{chain_of, range_end}
use Rattle.tg_protocol.specs.Entries.{streams_of}
use Rattle.tg_protocol.specs.Cells.{Place, place_in, unit_at, CellJob, CellWork, Puts, Gets, Fills, Copies, Probes}
use Rattle.tg_protocol.specs.Syncing.{SyncWork, Checking, Settling, Probing}
use Rattle.tg_protocol.specs.Walking.{Walk}
use Rattle.tg_protocol.specs.Sequencers.{SeqrState}
use Rattle.tg_protocol.specs.Appending.{Append, AppendWork, Asking, Putting, Judging, Token}
use Rattle.tg_protocol.specs.Trimming as copying
use Rattle.tg_protocol.specs.Trimming.{Trims, CopyWork, Sealing, Reading, Storing, Looking, Copying}
use Rattle.tg_protocol.specs.Clients.{Purpose, Task, Appending, Syncing, Walking, Trimming, Copying', Reconfiguring, Hand, Doing, Work}
use Rattle.tg_protocol.specs.ClientSteps.{task_in}
use Rattle.tg_protocol.specs.Worlds.{World, unit, seqr, client, latest}
use Rattle.tg_protocol.specs.Runs.{Moves, Reaches, Later, run}
use Rattle.tg_protocol.specs.Finishing.{IsServing}
use Rattle.tg_law_layouts.specs.Moves.After.{after}
use Rattle.tg_law_layouts.specs.Moves.Configs.{config, client_in}
use Rattle.tg_law_layouts.specs.Layouts.Decisions.{IsOfDecided}
use Rattle.tg_law_layouts.specs.Requests.Laws.{IsSo}
use Rattle.tg_law_layouts.proofs.Moves.Lists.{contained}
use Rattle.tg_law_layouts.proofs.Moves.Members.{has_contained}
use Rattle.tg_law_layouts.proofs.Requests.Starts.{told_is_so}
use Rattle.tg_law_layouts.proofs.Layouts.Deciding.{latest_decided, layouts_are_sound}
use Rattle.tg_law_cells.specs.Cells.Chains.{ToldUpTo}
use Rattle.tg_law_cells.specs.Cells.Settled.{IsSettled, StandsLater, head}
use Rattle.tg_law_cells.specs.Tokens.Issuing.{Issued, IsOwnPage}
use Rattle.tg_law_cells.proofs.Cells.Befores.{has_at}
use Rattle.tg_law_cells.proofs.Cells.Hands as hands
use Rattle.tg_law_cells.proofs.Cells.Heads.{heads_have_cells}
use Rattle.tg_law_cells.proofs.Cells.Jobs as jobs
use Rattle.tg_law_cells.proofs.Cells.Justified.{ToldBy}
use Rattle.tg_law_cells.proofs.Cells.Justified as justified
use Rattle.tg_law_cells.proofs.Cells.Settling.{cell_self, settled_is_held, units_tell_settled, units_have_no_other}
use Rattle.tg_law_cells.proofs.Cells.Stores.{cells_hold, up_to}
use Rattle.tg_law_cells.proofs.Cells.Successors.{some_there}
use Rattle.tg_law_cells.proofs.Tokens.Hands as own_hands
use Rattle.tg_law_cells.proofs.Tokens.Jobs as own_jobs
use Rattle.tg_law_cells.proofs.Tokens.Named.{issuer_is_named}
use Rattle.tg_law_cells.proofs.Tokens.Own.{pages_hold, own_page}
use Rattle.tg_law_cells.proofs.Tokens.Owning as owning
use Rattle.tg_law_walks.proofs.Drafts.Became.{Holds}
use Rattle.tg_law_walks.proofs.Once.Along.{spent}
use Rattle.tg_law_walks.proofs.Once.Feeding.{WorkToken}
use Rattle.tg_law_headline.specs.Trims.Spare.{TrimsAre}
use Rattle.tg_law_headline.proofs.Issues.Bounds.{AllBelow, AllFit, JobFits, TrailOk, lasts_below}
use Rattle.tg_law_headline.proofs.Issues.Clients.{B, L}
use Rattle.tg_law_headline.proofs.Issues.Hands as naming
use Rattle.tg_law_headline.proofs.Issues.Machines as issues
use Rattle.tg_law_headline.proofs.Issues.Machines.{AnswerOk, TailOk}
use Rattle.tg_law_finish.specs.Finish.Reads.{IsRead}
use Rattle.tg_law_finish.specs.Finish.Appends.{InHand, NoOther, AppendStands, PuttingStands, JudgingStands}
use Rattle.tg_law_finish.proofs.Finish.Asking.{CarriesDown, CellStands, JobStands, CopyStands, PutStands, PageStands, ProbeStands, LastsBelow, SyncStands, WalkStands, TaskStands}
use Rattle.tg_law_finish.proofs.Finish.Brought as brought
use Rattle.tg_law_finish.proofs.Finish.Brought.{WorkShape, CopyShape, OfCommand, copies_stand}
use Rattle.tg_law_finish.proofs.Finish.Midway as midway
use Rattle.tg_law_finish.proofs.Finish.Midway.{ReadShape, SyncShape, WalkShape, TrimShape}
use Rattle.tg_law_finish.proofs.Finish.Probes.{ProbeShape}
use Rattle.tg_law_finish.proofs.Finish.Working.{Working, at_chain}
use Rattle.tg_law_finish.proofs.Finish.Issued.{clients_here}
use Rattle.tg_law_finish.proofs.Finish.Below.{once, greatest, some, past, issued_below, none_below, trimmed_settled}
use Rattle.tg_law_finish.proofs.Finish.Shapes.{Shape, PutShape, JudgeShape}
use Rattle.tg_law_finish.proofs.Finish.Shaped.{shaped_hold}
use Rattle.tg_law_finish.proofs.Finish.Stripes.{ends_low, is_closed, is_there}

is_less : (x y : ℕ) → x < y → nat_lt x y ≡ true
is_less x y less = grind arith

is_below : (x y : ℕ) → nat_lt x y ≡ true → x < y
is_below x y e = grind arith

not_both : (x y : ℕ) → x < y → nat_lt x y ≡ false → ⊥
not_both x y less e = grind arith

module _ (m : Meaning) (h : Header) (zs : Moves m) (r : Reaches m h zs (after m h zs)) (trims : TrimsAre m h zs (after m h zs)) (k : ℕ) (ready : Working m (after m h zs) k (latest m (after m h zs)))
    (serves : IsServing (seqr m (after m h zs) (latest m (after m h zs)).seq) (latest m (after m h zs)).epoch) where
  abbrev w : World m
  w = after m h zs

  abbrev q : Layout
  q = latest m (after m h zs)

  abbrev s : SeqrState
  s = seqr m (after m h zs) (latest m (after m h zs)).seq

  decided : IsOfDecided m (after m h zs) q
  decided = (latest_decided m h zs (after m h zs) r).decided

  now : Later m (after m h zs) (after m h zs)
  unfolding run
  now = ([], record { lawful = λ x c. absurd (has_contained [] x c); is = refl; few = r.goes.few })

  first_there : (pos : ℕ) → 0 < length (chain_of q pos)
  first_there pos = some_there q pos (layouts_are_sound m h zs (after m h zs) r q.epoch q decided).rules

  -- A unit of the chain has no other cell than the first one has told.
  module _ (pos : ℕ) (c x : Cell) (u : ℕ) (t : ToldUpTo (after m h zs).packets (head q pos) q.epoch pos c) (there : Contains (chain_of q pos) u) (at : cell_at (unit m (after m h zs) u).cells pos ≡ Some x) where
    -- where the first one has trimmed it, it was settled
    trimmed : pos < (unit m (after m h zs) (head q pos)).low → x ≡ c
    trimmed less = by (trimmed_settled m h zs r serves trims.in_time trims.were.safe (head q pos) pos less)
      where
        later : (y : Cell) (g : IsSettled m (after m h zs) pos y) (v : ℕ) → Contains (chain_of q pos) v → StandsLater m (after m h zs) g.layout q pos v
        later y g v here = record { decided = decided; later = greatest m h zs r g.layout g.decided; here = here }

        by : (y : Cell) × IsSettled m (after m h zs) pos y → x ≡ c
        by g =
            let told = units_tell_settled m h zs w w r now pos g.0 g.1 q (head q pos) t.claim (later g.0 g.1 (head q pos) (contained (chain_of q pos) _ (has_at (chain_of q pos) 0 (first_there pos)))) t.told t.at in
            units_have_no_other m h zs w w r now pos g.0 x g.1 q u (later g.0 g.1 u there) at ∙ (sym told ∙ t.is)

    told_same : (unit m (after m h zs) u).epoch ≡ q.epoch → x ≡ c
    told_same stands = by (heads_have_cells m h zs w r q pos u x decided there (omega (arith, stands)) at) has
      where
        so : IsSo m (after m h zs) (head q pos) t.claim
        so = told_is_so m h zs w r (head q pos) t.claim t.told

        has : (cell_at (unit m (after m h zs) (head q pos)).cells pos ≡ Some c) ⊎ (pos < (unit m (after m h zs) (head q pos)).low)
        has = subst (λ (y : Cell). (cell_at (unit m (after m h zs) (head q pos)).cells pos ≡ Some y) ⊎ (pos < (unit m (after m h zs) (head q pos)).low)) t.is
            (subst (λ (n : ℕ). (cell_at (unit m (after m h zs) (head q pos)).cells n ≡ Some t.claim.cell) ⊎ (n < (unit m (after m h zs) (head q pos)).low)) t.at so.cell)

        same : (a b : Cell) → Some a ≡ Some b → a ≡ b
        same a b e = cc

        by : (cell_at (unit m (after m h zs) (head q pos)).cells pos ≡ Some x) ⊎ (pos < (unit m (after m h zs) (head q pos)).low) → (cell_at (unit m (after m h zs) (head q pos)).cells pos ≡ Some c) ⊎ (pos < (unit m (after m h zs) (head q pos)).low) → x ≡ c
        by (inl e) (inl f) = same x c (sym e ∙ f)
        by (inl e) (inr l) = trimmed l
        by (inr l) f = trimmed l

  no_other : (pos : ℕ) (c : Cell) (i : ℕ) → ToldBy (after m h zs).packets (head q pos) q.epoch pos c → NoOther m (after m h zs) pos c i
  no_other pos c i t = λ j x from less at. subst (λ (y : Cell). cell_eq y c ≡ true)
      (sym (told_same pos c x (slice_index (chain_of q pos) j) (up_to (after m h zs).packets (head q pos) q.epoch pos c t) (contained (chain_of q pos) _ (has_at (chain_of q pos) j less)) at (ready.units_stand pos j less)))
      (cell_self c)

  in_hand : (a : Append) (pos i : ℕ) (t : Token) → a.token ≡ Some t → i < length (chain_of q pos) → pos < s.next → InHand m (after m h zs) a pos i
  in_hand a pos i t has less below = record { token = t; has = has; within = less; issued = λ e. absurd (omega (arith, below, e)) }

  -- The position of a page was issued in this epoch.

  issued : (pl : Place) (d : List ℕ) → pl ≡ place_in q pl.pos → owning.Owned (after m h zs).packets (client_id k) pl.epoch pl.pos d → pl.pos < s.next
  issued pl d e o = by (own_page m (after m h zs) (client_id k) pl.epoch pl.pos d o)
    where
      epoch : pl.epoch ≡ q.epoch
      epoch = ap (λ (a : Place). a.epoch) e

      by : IsOwnPage m (after m h zs) (client_id k) pl.epoch pl.pos d → pl.pos < s.next
      by g =
          let n = issuer_is_named m h zs (after m h zs) r g.seqr pl.epoch pl.pos (streams_of g.draft) g.links g.issued (let a = some m h zs r in omega (arith, a, epoch)) in
          issued_below m h zs r serves pl.epoch pl.pos (streams_of g.draft) g.links
          (subst (λ (i : ℕ). Issued m (after m h zs) i pl.epoch pl.pos (streams_of g.draft) g.links) (sym n.names ∙ ap (λ (l : Layout). l.seq) (once m h zs r n.layout pl.epoch n.decided epoch)) g.issued) epoch

  told_head : (pl : Place) (c : Cell) → pl ≡ place_in q pl.pos → ToldBy (after m h zs).packets (unit_at pl 0) pl.epoch pl.pos c → ToldBy (after m h zs).packets (head q pl.pos) q.epoch pl.pos c
  told_head pl c e t = subst (λ (b : Place). ToldBy (after m h zs).packets (unit_at b 0) b.epoch pl.pos c) e t

  in_chain : (pl : Place) (i : ℕ) → pl ≡ place_in q pl.pos → i < length pl.chain → i < length (chain_of q pl.pos)
  in_chain pl i e less = subst (λ (b : Place). i < length b.chain) e less

  put_stands : (a : Append) (pl : Place) (y : CellWork) → PutShape pl y → pl ≡ place_in q pl.pos → justified.WorkOk (after m h zs).packets pl y
      → owning.WorkOk (after m h zs).packets (own_jobs.Mine (after m h zs).packets (client_id k) q) pl y → (t : Token) → a.token ≡ Some t → PuttingStands m (after m h zs) a pl.pos y
  put_stands a pl (Puts j d zero) shape e told own t has = in_hand a pl.pos 0 t has (first_there pl.pos) (issued pl d e own)
  put_stands a pl (Puts j d (suc i)) shape e told own t has = (
    in_hand a pl.pos (suc i) t has (in_chain pl (suc i) e shape) (issued pl d e own),
    no_other pl.pos (Data d) (suc i) (told_head pl (Data d) e (told.1 0 (omega arith))),
  )
  put_stands a pl (Gets j) shape e told own t has = absurd shape
  put_stands a pl (Fills j) shape e told own t has = absurd shape
  put_stands a pl (Copies j c i) shape e told own t has = absurd shape
  put_stands a pl (Probes ws) shape e told own t has = absurd shape

  judge_stands : (a : Append) (pl : Place) (y : CellWork) → pl.pos < q.start → JudgeShape pl y → pl ≡ place_in q pl.pos → justified.WorkOk (after m h zs).packets pl y → (t : Token) → a.token ≡ Some t → JudgingStands m (after m h zs) a pl.pos y
  judge_stands a pl (Fills j) low shape e told t has = let b = past m h zs r serves in in_hand a pl.pos 0 t has (first_there pl.pos) (omega (arith, low, b))
  judge_stands a pl (Copies j c i) low shape e told t has = let b = past m h zs r serves in (
    in_hand a pl.pos i t has (in_chain pl i e shape) (omega (arith, low, b)),
    no_other pl.pos c i (told_head pl c e (told.2 0 told.0)),
  )
  judge_stands a pl (Puts j d i) low shape e told t has = absurd shape
  judge_stands a pl (Gets j) low shape e told t has = absurd shape
  judge_stands a pl (Probes ws) low shape e told t has = absurd shape

  work_stands : (a : Append) (y : AppendWork) → Shape q y → jobs.AppendOk (after m h zs).packets q y → own_jobs.AppendOk (after m h zs).packets (client_id k) q y → WorkToken a.token y → AppendStands m (after m h zs) a y
  work_stands a (Asking j) shape ok own token = tt
  work_stands a (Putting j) shape ok own token = put_stands a j.place j.work shape ok.place ok.work own.work token.0 token.1
  work_stands a (Judging j) shape ok own token = judge_stands a j.place j.work shape.0 shape.1 ok.place ok.work token.0 token.1

  -- what is so of an append in hand
  pub record InHandAre (a : Append) : Type 0 where
    pub shape : Shape q a.work
    pub told : jobs.AppendOk (after m h zs).packets q a.work
    pub mine : own_jobs.AppendOk (after m h zs).packets (client_id k) q a.work
    pub token : WorkToken a.token a.work

  in_hand_are : (v : Work m) (a : Append) (y : Purpose m) → (client m (after m h zs) k).work ≡ Some v → v.hand ≡ Doing (Appending a y) → InHandAre a
  in_hand_are v a y has hand = record {
    shape = subst (λ (l : Layout). Shape l a.work) ready.client_stands (shaped_hold m h zs r k a holds);
    told = subst (λ (l : Layout). jobs.AppendOk (after m h zs).packets l a.work) ready.client_stands told;
    mine = subst (λ (l : Layout). own_jobs.AppendOk (after m h zs).packets (client_id k) l a.work) ready.client_stands mine;
    token = ((spent m h zs r).of k).tokens a holds;
  }
    where
      holds : Holds m (client_in m (config m (after m h zs)) k) a
      holds = record { work = v; purpose = y; has = has; holds = ap (task_in m) hand }

      told : jobs.AppendOk (after m h zs).packets (client m (after m h zs) k).stand a.work
      told = subst (λ (d : Hand m). hands.HandOk m (after m h zs).packets (client m (after m h zs) k).stand d) hand
          (subst (λ (o : Option (Work m)). hands.WorkOk m (after m h zs).packets (client m (after m h zs) k).stand o) has ((cells_hold m h zs).hands k))

      mine : own_jobs.AppendOk (after m h zs).packets (client_id k) (client m (after m h zs) k).stand a.work
      mine = subst (λ (d : Hand m). own_hands.HandOk m (after m h zs).packets (client_id k) (client m (after m h zs) k).stand d) hand
          (subst (λ (o : Option (Work m)). own_hands.WorkOk m (after m h zs).packets (client_id k) (client m (after m h zs) k).stand o) has ((pages_hold m h zs).hands k))

  pub append_stands : (v : Work m) (a : Append) (y : Purpose m) → (client m (after m h zs) k).work ≡ Some v → v.hand ≡ Doing (Appending a y) → AppendStands m (after m h zs) a a.work
  append_stands v a y has hand = let g = in_hand_are v a y has hand in work_stands a a.work g.shape g.told g.mine g.token

  -- A sync or a walk.

  -- a position that may be named in this epoch
  named_below : (e pos : ℕ) → B m h zs r trims.in_time e pos → e ≡ q.epoch → pos < s.next
  named_below e pos named at = none_below m h zs r serves e pos named at

  tail_below' : (t : ℕ) → AllFit (B m h zs r trims.in_time) (L m h zs r trims.in_time) q.epoch t → t ≤ s.next
  tail_below' zero fit = omega arith
  tail_below' (suc t) fit = let less = named_below q.epoch t (fit t (omega arith)) refl in omega (arith, less)

  all_more : (t n : ℕ) (xs : List ℕ) → t ≤ n → AllBelow t xs → AllBelow n xs
  all_more t n [] le k = tt
  all_more t n (x ∷ xs) le k = ((let less = k.0 in omega (arith, less, le)), all_more t n xs le k.1)

  lasts_below' : (t : ℕ) (ls : List StreamLink) → AnswerOk (B m h zs r trims.in_time) (L m h zs r trims.in_time) q.epoch t ls → LastsBelow m (after m h zs) q ls
  lasts_below' t ls k o = all_more t s.next _ (tail_below' t k.fit) (lasts_below t o ls k.links)

  -- the cell that the first unit has told
  module _ (pos : ℕ) (c : Cell) (t : ToldUpTo (after m h zs).packets (head q pos) q.epoch pos c) where
    first_has : (cell_at (unit m (after m h zs) (head q pos)).cells pos ≡ Some c) ⊎ (pos < (unit m (after m h zs) (head q pos)).low)
    first_has =
        let so : IsSo m (after m h zs) (head q pos) t.claim = told_is_so m h zs w r (head q pos) t.claim t.told in
        subst (λ (y : Cell). (cell_at (unit m (after m h zs) (head q pos)).cells pos ≡ Some y) ⊎ (pos < (unit m (after m h zs) (head q pos)).low)) t.is
        (subst (λ (n : ℕ). (cell_at (unit m (after m h zs) (head q pos)).cells n ≡ Some t.claim.cell) ⊎ (n < (unit m (after m h zs) (head q pos)).low)) t.at so.cell)

    stands_later : (y : Cell) (g : IsSettled m (after m h zs) pos y) (i : ℕ) → i < length (chain_of q pos) → StandsLater m (after m h zs) g.layout q pos (at_chain m q pos i)
    stands_later y g i less = record { decided = decided; later = greatest m h zs r g.layout g.decided; here = contained (chain_of q pos) _ (has_at (chain_of q pos) i less) }

    carries : CarriesDown m (after m h zs) q pos c
    carries = record { first = first; held = held }
      where
        first : nat_lt pos (unit m (after m h zs) (at_chain m q pos 0)).low ≡ false → cell_at (unit m (after m h zs) (at_chain m q pos 0)).cells pos ≡ Some c
        first e = by first_has
          where
            by : (cell_at (unit m (after m h zs) (head q pos)).cells pos ≡ Some c) ⊎ (pos < (unit m (after m h zs) (head q pos)).low) → cell_at (unit m (after m h zs) (head q pos)).cells pos ≡ Some c
            by (inl i) = i
            by (inr less) = absurd (not_both _ _ less e)

        held : (j : ℕ) → j < length (chain_of q pos) → nat_lt pos (unit m (after m h zs) (at_chain m q pos j)).low ≡ true
            → (i : ℕ) → i < length (chain_of q pos) → (cell_at (unit m (after m h zs) (at_chain m q pos i)).cells pos ≡ Some c) ⊎ (nat_lt pos (unit m (after m h zs) (at_chain m q pos i)).low ≡ true)
        held j there low i here = by (trimmed_settled m h zs r serves trims.in_time trims.were.safe (at_chain m q pos j) pos (is_below _ _ low))
          where
            by : (y : Cell) × IsSettled m (after m h zs) pos y → (cell_at (unit m (after m h zs) (at_chain m q pos i)).cells pos ≡ Some c) ⊎ (nat_lt pos (unit m (after m h zs) (at_chain m q pos i)).low ≡ true)
            by g =
                let told = units_tell_settled m h zs w w r now pos g.0 g.1 q (head q pos) t.claim (stands_later g.0 g.1 0 (first_there pos)) t.told t.at in
                of (sym told ∙ t.is) (settled_is_held m h zs w w r now pos g.0 g.1 q (at_chain m q pos i) (stands_later g.0 g.1 i here))
              where
                of : g.0 ≡ c → (cell_at (unit m (after m h zs) (at_chain m q pos i)).cells pos ≡ Some g.0) ⊎ (pos < (unit m (after m h zs) (at_chain m q pos i)).low)
                    → (cell_at (unit m (after m h zs) (at_chain m q pos i)).cells pos ≡ Some c) ⊎ (nat_lt pos (unit m (after m h zs) (at_chain m q pos i)).low ≡ true)
                of e (inl x) = inl (x ∙ ap (λ (y : Cell). Some y) e)
                of e (inr less) = inr (is_less _ _ less)

  cell_stands : (pl : Place) (y : CellWork) → ReadShape pl y → pl ≡ place_in q pl.pos → justified.WorkOk (after m h zs).packets pl y → CellStands m (after m h zs) q pl.pos y
  cell_stands pl (Gets j) shape e told = tt
  cell_stands pl (Fills j) shape e told = tt
  cell_stands pl (Copies j c i) shape e told = (in_chain pl i e shape, carries pl.pos c (up_to (after m h zs).packets (head q pl.pos) q.epoch pl.pos c (told_head pl c e (told.2 0 told.0))))
  cell_stands pl (Puts j d i) shape e told = absurd shape
  cell_stands pl (Probes ws) shape e told = absurd shape

  -- With a token.

  page_stands : (pl : Place) (y : CellWork) → PutShape pl y → pl ≡ place_in q pl.pos → justified.WorkOk (after m h zs).packets pl y → owning.WorkOk (after m h zs).packets (own_jobs.Mine (after m h zs).packets (client_id k) q) pl y
      → PutStands m (after m h zs) q pl.pos y × (pl.pos < s.next)
  page_stands pl (Puts j d zero) shape e told own = (tt, issued pl d e own)
  page_stands pl (Puts j d (suc i)) shape e told own = (
    (in_chain pl (suc i) e shape, carries pl.pos (Data d) (up_to (after m h zs).packets (head q pl.pos) q.epoch pl.pos (Data d) (told_head pl (Data d) e (told.1 0 (omega arith))))),
    issued pl d e own,
  )
  page_stands pl (Gets j) shape e told own = absurd shape
  page_stands pl (Fills j) shape e told own = absurd shape
  page_stands pl (Copies j c i) shape e told own = absurd shape
  page_stands pl (Probes ws) shape e told own = absurd shape

  judged_stands : (pl : Place) (y : CellWork) → JudgeShape pl y → pl ≡ place_in q pl.pos → justified.WorkOk (after m h zs).packets pl y → CellStands m (after m h zs) q pl.pos y
  judged_stands pl (Fills j) shape e told = tt
  judged_stands pl (Copies j c i) shape e told = (in_chain pl i e shape, carries pl.pos c (up_to (after m h zs).packets (head q pl.pos) q.epoch pl.pos c (told_head pl c e (told.2 0 told.0))))
  judged_stands pl (Gets j) shape e told = absurd shape
  judged_stands pl (Puts j d i) shape e told = absurd shape
  judged_stands pl (Probes ws) shape e told = absurd shape

  -- what an append has that has a token
  abbrev pub HasToken : Append → AppendWork → Type 0
  HasToken a (Asking j) = Unit {0}
  HasToken a (Putting j) = (t : Token) × (a.token ≡ Some t) × PageStands m (after m h zs) q j
  HasToken a (Judging j) = (t : Token) × (a.token ≡ Some t) × JobStands m (after m h zs) q j

  has_token : (a : Append) (y : AppendWork) → Shape q y → jobs.AppendOk (after m h zs).packets q y → own_jobs.AppendOk (after m h zs).packets (client_id k) q y → WorkToken a.token y → HasToken a y
  has_token a (Asking j) shape ok own token = tt
  has_token a (Putting j) shape ok own token = let g = page_stands j.place j.work shape ok.place ok.work own.work in (token.0, token.1, record { place = ok.place; less = g.1; work = g.0 })
  has_token a (Judging j) shape ok own token = (
    token.0,
    token.1,
    record { place = ok.place; less = (let low = shape.0 in let b = past m h zs r serves in omega (arith, low, b)); work = judged_stands j.place j.work shape.1 ok.place ok.work },
  )

  pub token_stands : (v : Work m) (a : Append) (y : Purpose m) → (client m (after m h zs) k).work ≡ Some v → v.hand ≡ Doing (Appending a y) → HasToken a a.work
  token_stands v a y has hand = let g = in_hand_are v a y has hand in has_token a a.work g.shape g.told g.mine g.token

  job_stands : (j : CellJob) → ReadShape j.place j.work → jobs.JobOk (after m h zs).packets q j → B m h zs r trims.in_time j.place.epoch j.place.pos → JobStands m (after m h zs) q j
  job_stands j shape ok named = record {
    place = ok.place;
    less = named_below j.place.epoch j.place.pos named (ap (λ (a : Place). a.epoch) ok.place);
    work = cell_stands j.place j.work shape ok.place ok.work;
  }

  probe_stands : (j : CellJob) (y : CellWork) → j.work ≡ y → ProbeShape j.place y → jobs.JobOk (after m h zs).packets q j → ProbeStands m q j
  probe_stands j (Probes ws) is shape ok = record { place = ok.place; waits = ws; work = is; asked = shape }
  probe_stands j (Gets i) is shape ok = absurd shape
  probe_stands j (Fills i) is shape ok = absurd shape
  probe_stands j (Copies i c n) is shape ok = absurd shape
  probe_stands j (Puts i d n) is shape ok = absurd shape

  sync_stands : (y : SyncWork) → SyncShape y → jobs.SyncOk (after m h zs).packets q y → issues.SyncOk (B m h zs r trims.in_time) (L m h zs r trims.in_time) q.epoch y → SyncStands m (after m h zs) q y
  sync_stands (Checking j) shape ok named = tt
  sync_stands (Settling a j) shape ok named = (lasts_below' a.tail a.lasts named.0, job_stands j shape ok named.1)
  sync_stands (Probing a j) shape ok named = (lasts_below' a.tail a.lasts named.0, probe_stands j j.work refl shape ok)

  walk_stands : (v : Work m) (x : Walk) (os : List Oid) (o : Option CellJob) → x.job ≡ o → WalkShape o → length os < length v.oids → jobs.MaybeOk (after m h zs).packets q o
      → TailOk (B m h zs r trims.in_time) (L m h zs r trims.in_time) q.epoch v.tail v.lasts → TrailOk v.tail x.trail → JobFits (B m h zs r trims.in_time) (L m h zs r trims.in_time) v.tail o → WalkStands m (after m h zs) q v x os
  walk_stands v x os None is shape fewer ok tail trail fits = absurd shape
  walk_stands v x os (Some j) is shape fewer ok tail trail fits =
      let low = tail_below' v.tail tail.answer.fit in
      let last = trail.last in
      record {
        lasts = lasts_below' v.tail v.lasts tail.answer;
        pointers = all_more v.tail s.next _ low trail.pointers;
        last = omega (arith, last, low);
        job = j;
        has = is;
        stands = job_stands j shape ok fits.0;
        fewer = fewer;
      }

  task_stands : (v : Work m) (t : Task m) → IsRead m t → midway.TaskStands m q v t → hands.TaskOk m (after m h zs).packets q t → naming.TaskOk m (B m h zs r trims.in_time) (L m h zs r trims.in_time) q v t → TaskStands m (after m h zs) q v t
  task_stands v (Syncing y) is shape ok k = sync_stands y.work shape ok k
  task_stands v (Walking x os) is shape ok k = walk_stands v x os x.job refl shape.0 shape.1 ok k.0 k.1.trail k.1.job
  task_stands v (Appending x y) is shape ok k = absurd is
  task_stands v (Trimming x) is shape ok k = absurd is
  task_stands v (Copying' x) is shape ok k = absurd is
  task_stands v (Reconfiguring x) is shape ok k = absurd is

  shaped : (v : Work m) (t : Task m) → (client m (after m h zs) k).work ≡ Some v → v.hand ≡ Doing t → midway.TaskStands m q v t
  shaped v t has hand = subst (λ (l : Layout). midway.TaskStands m l v t) ready.client_stands
      (subst (λ (d : Hand m). midway.HandStands m (client m (after m h zs) k).stand v d) hand
      (subst (λ (o : Option (Work m)). midway.WorkStands m (client m (after m h zs) k).stand o) has (midway.all_stand m h zs (after m h zs) r k)))

  -- which units a trim waits for
  pub trims_stand : (v : Work m) (t : Trims) → (client m (after m h zs) k).work ≡ Some v → v.hand ≡ Doing (Trimming t) → TrimShape q t
  trims_stand v t has hand = shaped v (Trimming t) has hand

  pub reads_stand : (v : Work m) (t : Task m) → (client m (after m h zs) k).work ≡ Some v → v.hand ≡ Doing t → IsRead m t → TaskStands m (after m h zs) q v t
  reads_stand v t has hand is = task_stands v t is
      (shaped v t has hand)
      (subst (λ (l : Layout). hands.TaskOk m (after m h zs).packets l t) ready.client_stands
      (subst (λ (d : Hand m). hands.HandOk m (after m h zs).packets (client m (after m h zs) k).stand d) hand
      (subst (λ (o : Option (Work m)). hands.WorkOk m (after m h zs).packets (client m (after m h zs) k).stand o) has ((cells_hold m h zs).hands k))))
      (subst (λ (l : Layout). naming.TaskOk m (B m h zs r trims.in_time) (L m h zs r trims.in_time) l v t) ready.client_stands
      (subst (λ (d : Hand m). naming.HandOk m (B m h zs r trims.in_time) (L m h zs r trims.in_time) (client m (after m h zs) k).stand v d) hand
      (subst (λ (o : Option (Work m)). naming.WorkOk m (B m h zs r trims.in_time) (L m h zs r trims.in_time) (client m (after m h zs) k).stand o) has (clients_here m h zs r trims.in_time k))))

  -- A copy.

  pub copy_shape : (v : Work m) (y : Copying) → (client m (after m h zs) k).work ≡ Some v → v.hand ≡ Doing (Copying' y) → CopyShape m (λ u. (unit m (after m h zs) u).epoch) q y × OfCommand m v.command y
  copy_shape v y has hand = subst (λ (l : Layout). brought.TaskStands m (λ u. (unit m (after m h zs) u).epoch) l v (Copying' y)) ready.client_stands
      (subst (λ (d : Hand m). brought.HandStands m (λ u. (unit m (after m h zs) u).epoch) (client m (after m h zs) k).stand v d) hand
      (subst (λ (o : Option (Work m)). brought.WorkStands m (λ u. (unit m (after m h zs) u).epoch) (client m (after m h zs) k).stand o) has (copies_stand m h zs k)))

  copy_work : (r' s' : ℕ) (y : CopyWork) → range_end q r' ≤ q.start → WorkShape q r' s' y → jobs.CopyOk (after m h zs).packets q y → CopyStands m (after m h zs) q r' s' y
  copy_work r' s' (Reading j) low shape ok = (
    record {
      place = ok.place;
      less = (let b = past m h zs r serves in let i = shape.1.below in omega (arith, low, b, i));
      work = cell_stands j.place j.work shape.0 ok.place ok.work;
    },
    shape.1,
  )
  copy_work r' s' (Storing i pos c) low shape ok = shape
  copy_work r' s' (Sealing i) low shape ok = tt
  copy_work r' s' (copying.Trimming i b) low shape ok = tt
  copy_work r' s' (Looking i) low shape ok = tt

  -- where it stands
  pub copy_stands : (v : Work m) (y : Copying) → (client m (after m h zs) k).work ≡ Some v → v.hand ≡ Doing (Copying' y) → CopyStands m (after m h zs) q y.range y.stripe y.work
  copy_stands v y has hand =
      let x = (copy_shape v y has hand).0 in
      let rules = (layouts_are_sound m h zs (after m h zs) r q.epoch q decided).rules in
      let low = ends_low q y.range y.stripe rules (is_closed m q y.unit y.range y.stripe x.fault) (is_there m q y.unit y.range y.stripe x.fault) in
      copy_work y.range y.stripe y.work low x.work
      (subst (λ (l : Layout). hands.TaskOk m (after m h zs).packets l (Copying' y)) ready.client_stands
      (subst (λ (d : Hand m). hands.HandOk m (after m h zs).packets (client m (after m h zs) k).stand d) hand
      (subst (λ (o : Option (Work m)). hands.WorkOk m (after m h zs).packets (client m (after m h zs) k).stand o) has ((cells_hold m h zs).hands k))))
