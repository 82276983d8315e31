-- The first stream's walk.
use Rattle.std.proofs.Common.{◌≡◌, ◌≤◌, ◌<◌, ℕ, suc, true, List, [], ◌∷◌, ◌++◌, Option, Some, None, length, refl, sym, ap, subst, ◌∙◌, arith}
use Rattle.std.proofs.Math.Nat.{min-le_right}
use Rattle.std.proofs.lemmas.Bool.Decides.{nat_tests}
use Rattle.std.specs.Prelude.{◌==◌, slice_get, remove}
use Rattle.tg_base.specs.Layouts.{Layout}
use Rattle.tg_base.specs.declared.cell.Cell.{Cell}
use Rattle.tg_base.specs.declared.ids.Oid.{Oid}
use Rattle.tg_base.specs.declared.packet.Out.{Out}
use Rattle.tg_base.specs.declared.packet.Rids.{Rids}
use Rattle.tg_kind.specs.Meaning.{Meaning}
use Rattle.tg_protocol.specs.Entries.{backs_of, link_of}
use Rattle.tg_protocol.specs.Requests.{Next}
use Rattle.tg_protocol.specs.Walking.{Walk, Members, WalkTurn, walk_asks, walk_start}
use Rattle.tg_protocol.specs.Answers.{Moved}
use Rattle.tg_protocol.specs.Clients as told
use Rattle.tg_protocol.specs.ClientSteps.{task_asks, goes_on, start_walk, found_by, walks}
use Rattle.tg_chain.specs.declared.step.Step.{Step}
use Rattle.tg_chain.specs.declared.step.Next.TheVariants as given
use Rattle.tg_stream.specs.declared.members.Members.{Members as GivenEnd}
use Rattle.tg_stream.specs.Turns.{shown, by_walk, given_to, new_asks}
use Rattle.tg_stream.specs.Walks.{Course, members_of}
use Rattle.tg_client_cells.specs.Known.{Knowledge, IsSettled, lent, returned}
use Rattle.tg_client_cells.specs.Walks.{ThenSettled, ThenInOrder}
use Rattle.tg_client_cells.proofs.Keeping.{keeps_settled}
use Rattle.tg_client_cells.proofs.Ordered.{finds_in_order}
use Rattle.tg_append.specs.Turns.{after as after-outs}
use Rattle.tg_client_state.specs.Numbers.{ThenDrawn, ThenNew}
use Rattle.tg_client_state.proofs.Walks.{walk_numbers}
use Rattle.tg_client_state.specs.Tasks.{JobOf, KeepsJob}
use Rattle.tg_client_state.specs.States.{StateOf, Rest, client_of, KeepsViewIf}
use Rattle.tg_client_state.specs.Moves.{Holds, Carries}
use Rattle.tg_client_state.specs.Steps.{Fits}
use Rattle.tg_client_state.proofs.Turning.{ThenSent, fits_later}
use Rattle.tg_client_sync.specs.Finding.{found_in, first_and_others}
use Rattle.tg_client_sync.proofs.Strides.{on_case, paused_case, over_case, new_sent}
use Rattle.tg_client_sync.proofs.Founds.{starts_not, starts_alone, found_job, first_goes, first_ends}

-- Lists by their first element.

first-or : Oid → Option (Oid × List Oid) → Oid
first-or o None = o
first-or o (Some x) = x.0

others-or : List Oid → Option (Oid × List Oid) → List Oid
others-or os None = os
others-or os (Some x) = x.1

pub by_first : (xs : List Oid) (o : Oid) (os : List Oid) → first_and_others xs ≡ Some (o, os) → xs ≡ o ∷ os
unfolding first-or others-or
by_first [] o os e = absurd cc
by_first (x ∷ xs) o os e = ap (λ (y : Oid). y ∷ xs) (ap (first-or o) e) ∙ ap (λ (ys : List Oid). o ∷ ys) (ap (others-or os) e)

pub none_first : (xs : List Oid) → first_and_others xs ≡ None → xs ≡ []
none_first [] e = refl
none_first (x ∷ xs) e = absurd cc

pub fewer : (xs : List Oid) (o : Oid) (os : List Oid) → first_and_others xs ≡ Some (o, os) → length os < length xs
fewer xs o os e = let l : length xs ≡ length (o ∷ os) = ap (λ (ys : List Oid). length ys) (by_first xs o os e) in omega (arith, l)

of-test : (n : ℕ) → (n == 0) ≡ true → n ≡ 0
of-test n h = grind (arith, nat_tests)

pub none_of : (xs : List Oid) → (length xs == 0) ≡ true → None ≡ first_and_others xs
none_of [] e = refl
none_of (x ∷ xs) e = let none : suc (length xs) ≡ 0 = of-test (suc (length xs)) e in absurd cc

pub some_of : (xs : List Oid) (o : Oid) → slice_get xs 0 ≡ Some o → Some (o, remove xs 0) ≡ first_and_others xs
some_of [] o e = absurd cc
some_of (x ∷ xs) o e = let same : x ≡ o = cc in ap (λ (y : Oid). Some (y, xs)) (sym same)

-- What its beginning tells.

record Told (p : Layout) (o : Oid) (k : Knowledge) (lo now old : ℕ) (outs : List Out) (to : Next Walk Members) : Type 0 where
  sent : ThenSent walk_asks old [] outs to
  drawn : ThenDrawn walk_asks now to
  settled : ThenSettled k.own k.settled to
  order : ThenInOrder to

tells : (p : Layout) (o : Oid) (lasts : List ℕ) (k : Knowledge) (lo : ℕ) (cells : List (ℕ × Cell)) (n now old : ℕ) (step : Step Walk Course GivenEnd) → old ≤ n → k.settled ≤ lo → IsSettled k.own k.settled cells →
    shown step now ≡ by_walk n (walk_start p o lasts lo cells n) → Told p o k lo now old step.outs (walk_start p o lasts lo cells n).to
tells p o lasts k lo cells n now old step le from settled e =
    let t : WalkTurn = walk_start p o lasts lo cells n in
    let next : now ≡ t.next = ap (λ v. v.next) e in
    let fits : Fits walk_asks old n t = fits_later walk_asks old n t le (walk_numbers.start p o lasts lo cells n) in
    let none : t.besides ≡ [] = starts_alone p o lasts lo cells n in
    record {
      sent =
          new_sent old n t.next step.outs t.to fits.alike (subst (λ os. ThenNew walk_asks n (after-outs n os) t.next t.to) none fits.numbers.new)
          (ap (λ v. v.outs) e ∙ ap (λ os. os ++ new_asks n t.next t.to) none);
      drawn = subst (λ i. ThenDrawn walk_asks i t.to) (sym next) fits.numbers.drawn;
      settled = keeps_settled.starts p o lasts lo cells n k.own k.settled from settled;
      order = finds_in_order.starts p o lasts lo cells n;
    }

pub never_learns : (p : Layout) (o : Oid) (lasts : List ℕ) (lo : ℕ) (cells : List (ℕ × Cell)) (n now : ℕ) (step : Step Walk Course GivenEnd) (x : Course) → step.next ≡ given.Learns x →
    shown step now ≡ by_walk n (walk_start p o lasts lo cells n) → ⊥
never_learns p o lasts lo cells n now step x is e =
    paused_case (λ to. (walk_start p o lasts lo cells n).to ≡ to → ⊥) x (walk_start p o lasts lo cells n).to (sym (ap given_to is) ∙ ap (λ v. v.to) e)
    (λ b f q. starts_not p o lasts lo cells n b q) refl

pub ends_settled : (p : Layout) (o : Oid) (lasts : List ℕ) (k : Knowledge) (lo : ℕ) (cells : List (ℕ × Cell)) (n now : ℕ) (step : Step Walk Course GivenEnd) (x : GivenEnd) → k.settled ≤ lo → IsSettled k.own k.settled cells →
    step.next ≡ given.Ends x → shown step now ≡ by_walk n (walk_start p o lasts lo cells n) → IsSettled k.own k.settled x.cells
ends_settled p o lasts k lo cells n now step x from settled is e =
    over_case (λ to. ThenSettled k.own k.settled to → IsSettled k.own k.settled x.cells) (members_of x) (walk_start p o lasts lo cells n).to (sym (ap given_to is) ∙ ap (λ v. v.to) e)
    (λ h. h) (keeps_settled.starts p o lasts lo cells n k.own k.settled from settled)

least-low : (k : Knowledge) (lo : ℕ) → (lent k lo).settled ≤ lo
least-low k lo = min-le_right k.settled lo

module _ (m : Meaning) where
  -- the turn, by what is kept of the command
  begun-as : (s : StateOf m) (j : JobOf m) (r : Rest m) (w : told.Work m) (o : Oid) → KeepsJob m j w →
      walk_start s.stand o (backs_of (link_of o j.lasts)) j.lo s.known.cells s.rids.next ≡ start_walk m (client_of m s r) w o
  begun-as s j r w o h =
      ap (λ (l : ℕ). walk_start s.stand o (backs_of (link_of o j.lasts)) l s.known.cells s.rids.next) (sym (ap (λ (u : told.Work m). u.lo) h))
      ∙ ap (λ ls. walk_start s.stand o (backs_of (link_of o ls)) w.lo s.known.cells s.rids.next) (sym (ap (λ (u : told.Work m). u.lasts) h))

  abbrev pub away : StateOf m → ℕ → Rids → StateOf m
  away s lo rids = record s { known = lent s.known lo; rids = rids }

  pub walk_begins : (P : Moved m → Type 0) (s : StateOf m) (j : JobOf m) (o : Oid) (os : List Oid) (rids : Rids) (step : Step Walk Course GivenEnd) (a : Walk) (r : Rest m) (w : told.Work m) (old : ℕ) →
      step.next ≡ given.Goes a → Holds m s j r w old → IsSettled s.known.own (lent s.known j.lo).settled s.known.cells →
      shown step rids.next ≡ by_walk s.rids.next (walk_start s.stand o (backs_of (link_of o j.lasts)) j.lo s.known.cells s.rids.next) →
      (Holds m (away s j.lo rids) j r w old → Carries m (away s j.lo rids) (told.Walking a os) old [] step.outs → P (goes_on m (client_of m (away s j.lo rids) r) w (told.Walking a os) [])) →
      P (walks m (o ∷ os) (client_of m s r) w)
  unfolding task_asks
  walk_begins P s j o os rids step a r w old is h settled e f =
      let t : WalkTurn = walk_start s.stand o (backs_of (link_of o j.lasts)) j.lo s.known.cells s.rids.next in
      let told-of : Told s.stand o (lent s.known j.lo) j.lo rids.next old step.outs t.to = tells s.stand o (backs_of (link_of o j.lasts)) (lent s.known j.lo) j.lo s.known.cells s.rids.next rids.next old step h.since (least-low s.known j.lo) settled e in
      let grows : s.rids.next ≤ t.next = (walk_numbers.start s.stand o (backs_of (link_of o j.lasts)) j.lo s.known.cells s.rids.next).fits.grows in
      let now : rids.next ≡ t.next = ap (λ v. v.next) e in
      let since : old ≤ s.rids.next = h.since in
      let h' : Holds m (away s j.lo rids) j r w old = record { since = omega (arith, grows, now, since); view = h.view; job = h.job } in
      let same : t ≡ start_walk m (client_of m s r) w o = begun-as s j r w o h.job in
      on_case (λ to. t.to ≡ to → Told s.stand o (lent s.known j.lo) j.lo rids.next old step.outs to → P (walks m (o ∷ os) (client_of m s r) w)) a t.to (sym (ap given_to is) ∙ ap (λ v. v.to) e)
      (λ q d.
      subst P (sym (first_goes m (client_of m s r) w o os a (sym (ap (λ (u : WalkTurn). u.to) same) ∙ q)))
      (subst (λ n. P (goes_on m (record (client_of m s r) { next = n; cells = [] }) w (told.Walking a os) [])) (now ∙ ap (λ (u : WalkTurn). u.next) same)
      (f h' (record { sent = d.sent; drawn = d.drawn; fit = record { settled = d.settled; finds = d.order } })))) refl told-of

  pub walk_known : (P : Moved m → Type 0) (s : StateOf m) (j : JobOf m) (o : Oid) (os : List Oid) (now : ℕ) (step : Step Walk Course GivenEnd) (x : GivenEnd) (r : Rest m) (w : told.Work m) →
      step.next ≡ given.Ends x → KeepsJob m j w →
      shown step now ≡ by_walk s.rids.next (walk_start s.stand o (backs_of (link_of o j.lasts)) j.lo s.known.cells s.rids.next) →
      (KeepsJob m (found_in m j o x.list x.gone) (found_by m w o (members_of x)) → P (walks m os (client_of m (record s { known = returned (lent s.known j.lo) x.cells }) r) (found_by m w o (members_of x)))) →
      P (walks m (o ∷ os) (client_of m s r) w)
  walk_known P s j o os now step x r w is hj e f =
      let t : WalkTurn = walk_start s.stand o (backs_of (link_of o j.lasts)) j.lo s.known.cells s.rids.next in
      let same : t ≡ start_walk m (client_of m s r) w o = begun-as s j r w o hj in
      over_case (λ to. t.to ≡ to → P (walks m (o ∷ os) (client_of m s r) w)) (members_of x) t.to (sym (ap given_to is) ∙ ap (λ v. v.to) e)
      (λ q.
      subst P (sym (first_ends m (client_of m s r) w o os (members_of x) (sym (ap (λ (u : WalkTurn). u.to) same) ∙ q)))
      (f (found_job m j w o (members_of x) hj))) refl

  -- By what the calls give.

  pub begins_at : (P : Moved m → Type 0) (s u : StateOf m) (cells : List (ℕ × Cell)) (j : JobOf m) (o : Oid) (os xs : List Oid) (rids : Rids) (step : Step Walk Course GivenEnd) (a : Walk) (r : Rest m) (w : told.Work m) (old : ℕ) →
      first_and_others xs ≡ Some (o, os) → cells ≡ s.known.cells → u ≡ record s { known = lent s.known j.lo } → IsSettled s.known.own (lent s.known j.lo).settled cells → step.next ≡ given.Goes a → Holds m s j r w old →
      shown step rids.next ≡ by_walk u.rids.next (walk_start u.stand o (backs_of (link_of o j.lasts)) j.lo cells u.rids.next) →
      (Holds m (record u { rids = rids }) j r w old → Carries m (record u { rids = rids }) (told.Walking a os) old [] step.outs → P (goes_on m (client_of m (record u { rids = rids }) r) w (told.Walking a os) [])) →
      P (walks m xs (client_of m s r) w)
  begins_at P s u cells j o os xs rids step a r w old hx hc hs settled is h e f =
      subst (λ (ys : List Oid). P (walks m ys (client_of m s r) w)) (sym (by_first xs o os hx))
      (walk_begins P s j o os rids step a r w old is h (subst (λ (cs : List (ℕ × Cell)). IsSettled s.known.own (lent s.known j.lo).settled cs) hc settled)
      (subst (λ (cs : List (ℕ × Cell)). shown step rids.next ≡ by_walk s.rids.next (walk_start s.stand o (backs_of (link_of o j.lasts)) j.lo cs s.rids.next)) hc
      (subst (λ (v : StateOf m). shown step rids.next ≡ by_walk v.rids.next (walk_start v.stand o (backs_of (link_of o j.lasts)) j.lo cells v.rids.next)) hs e))
      (subst (λ (v : StateOf m). Holds m (record v { rids = rids }) j r w old → Carries m (record v { rids = rids }) (told.Walking a os) old [] step.outs → P (goes_on m (client_of m (record v { rids = rids }) r) w (told.Walking a os) [])) hs f))

  pub settled_at : (s u : StateOf m) (cells : List (ℕ × Cell)) (j : JobOf m) (o : Oid) (now : ℕ) (step : Step Walk Course GivenEnd) (x : GivenEnd) → u ≡ record s { known = lent s.known j.lo } →
      IsSettled s.known.own (lent s.known j.lo).settled cells → step.next ≡ given.Ends x → shown step now ≡ by_walk u.rids.next (walk_start u.stand o (backs_of (link_of o j.lasts)) j.lo cells u.rids.next) →
      IsSettled u.known.own u.known.settled x.cells
  settled_at s u cells j o now step x hs settled is e =
      subst (λ (v : StateOf m). IsSettled v.known.own v.known.settled x.cells) (sym hs)
      (ends_settled u.stand o (backs_of (link_of o j.lasts)) (lent s.known j.lo) j.lo cells u.rids.next now step x (least-low s.known j.lo) settled is e)

  pub known_at : (P : Moved m → Type 0) (s u v : StateOf m) (cells : List (ℕ × Cell)) (j k : JobOf m) (o : Oid) (os xs : List Oid) (now : ℕ) (step : Step Walk Course GivenEnd) (ps : List ℕ) (x : GivenEnd) (r : Rest m) (w : told.Work m) (old : ℕ) →
      first_and_others xs ≡ Some (o, os) → cells ≡ s.known.cells → u ≡ record s { known = lent s.known j.lo } → ps ≡ x.list → v ≡ record u { known = returned u.known x.cells } → k ≡ found_in m j o ps x.gone →
      step.next ≡ given.Ends x → Holds m s j r w old → shown step now ≡ by_walk u.rids.next (walk_start u.stand o (backs_of (link_of o j.lasts)) j.lo cells u.rids.next) →
      (Holds m v k r (found_by m w o (members_of x)) old → P (walks m os (client_of m v r) (found_by m w o (members_of x)))) →
      P (walks m xs (client_of m s r) w)
  known_at P s u v cells j k o os xs now step ps x r w old hx hc hs hp hu hj is h e f =
      let hk : k ≡ found_in m j o x.list x.gone = hj ∙ ap (λ (qs : List ℕ). found_in m j o qs x.gone) hp in
      let full : v ≡ record s { known = returned (lent s.known j.lo) x.cells } = hu ∙ ap (λ (y : StateOf m). record y { known = returned y.known x.cells }) hs in
      subst (λ (ys : List Oid). P (walks m ys (client_of m s r) w)) (sym (by_first xs o os hx))
      (walk_known P s j o os now step x r w is h.job
      (subst (λ (cs : List (ℕ × Cell)). shown step now ≡ by_walk s.rids.next (walk_start s.stand o (backs_of (link_of o j.lasts)) j.lo cs s.rids.next)) hc
      (subst (λ (y : StateOf m). shown step now ≡ by_walk y.rids.next (walk_start y.stand o (backs_of (link_of o j.lasts)) j.lo cells y.rids.next)) hs e))
      (λ job. subst (λ (y : StateOf m). P (walks m os (client_of m y r) (found_by m w o (members_of x)))) full
      (f (record {
        since = subst (λ (y : StateOf m). old ≤ y.rids.next) (sym full) h.since;
        view = subst (λ (y : StateOf m). KeepsViewIf m y.view r.view) (sym full) h.view;
        job = subst (λ (i : JobOf m). KeepsJob m i (found_by m w o (members_of x))) (sym hk) job;
      }))))
