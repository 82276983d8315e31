-- The transactions of each run's history keep the grammar.
use Rattle.std.proofs.Common.{◌≡◌, ℕ, suc, ◌+◌, ◌<◌, ◌≤◌, ◌^◌, List, [], ◌∷◌, length, map, Bool, true, false, refl, sym, ap, ◌∙◌, subst, inl, inr, arith, Some, None, Option}
use Rattle.std.specs.Prelude.{◌==◌, not, nat_lt, nat_le}
use Rattle.std.proofs.lemmas.Bool.Decides.{nat_tests}
use Rattle.tg_base.specs.Clusters.{Header, IsHeader, are_objects, is_user_object}
use Rattle.tg_base.specs.Units.{is_rising}
use Rattle.tg_base.specs.declared.ids.Oid.{Oid}
use Rattle.tg_codec.proofs.Laws.{and-left, and-right, both}
use Rattle.tg_entry.specs.declared.entry.Body.{Body}
use Rattle.tg_entry.specs.declared.entry.Entry.{Entry}
use Rattle.tg_entry.specs.declared.entry.WriteOp.{WriteOp}
use Rattle.tg_entry.specs.Needs.{writes_of, writes_in}
use Rattle.tg_model.specs.Kinds.{MarkOf, DoneOf}
use Rattle.tg_model.specs.Stores.{AllAbove, Rises}
use Rattle.tg_model.specs.Traces.{puts_of}
use Rattle.tg_model.specs.Legal.{Legal}
use Rattle.tg_protocol.specs.Alike.{HasEntry}
use Rattle.tg_protocol.specs.Appending.{Append}
use Rattle.tg_protocol.specs.Clients.{Purpose, Writes, Judged, Decides, Rescues, Saves, Marks, Task, Appending, Work, Client, write_of}
use Rattle.tg_protocol.specs.ClientSteps.{task_in}
use Rattle.tg_protocol.specs.Entries.{is_commit}
use Rattle.tg_protocol.specs.Holding.{WasBegun, EntriesOwn, RecordsOwn, append_of, append_by}
use Rattle.tg_protocol.specs.Logs.{op_if, ops_of, history_of}
use Rattle.tg_protocol.specs.Transactions.{commit_record}
use Rattle.tg_protocol.specs.Worlds.{World, Told, start, client, trace, history}
use Rattle.tg_protocol.specs.Runs.{Moves, Reaches}
use Rattle.tg_any.specs.declared.any.AnyOp.{AnyOp}
use Rattle.tg_any.specs.AllKinds.{all_kinds}
use Rattle.tg_any.specs.Anys as any
use Rattle.tg_any.specs.Names.{is_named}
use Rattle.tg_trace.specs.Transcripts.{Entry as Transaction, objects, entry, write, stamps}
use Rattle.tg_law_layouts.proofs.Moves.Lists.{contained}
use Rattle.tg_law_layouts.proofs.Moves.Members.{Has, has_contained, has_map}
use Rattle.tg_law_replies.proofs.Books.Effects.{Suits}
use Rattle.tg_law_replies.proofs.Books.Turns.{BookOf, DraftOf}
use Rattle.tg_law_replies.proofs.Books.Worlds.{run_book, start_book}
use Rattle.tg_law_replies.proofs.History.Cells.{logs_rise}
use Rattle.tg_law_replies.proofs.History.History.{Made, has_made}
use Rattle.tg_law_replies.specs.History.Worlds.{entries_in}
use Rattle.tg_law_headline.specs.Trims.Spare.{TrimsAre}
use Rattle.tg_law_headline.proofs.Store.States.{store_reads_ops}
use Rattle.tg_law_headline.specs.Runs.Runs.{RunHolds}
use Rattle.tg_law_headline.proofs.Runs.Holding.{runs_hold, logs_hold}
use Rattle.tg_law_programs.specs.Transcripts.Fits.{EachHistoryFits}
use Rattle.tg_law_programs.proofs.Transcripts.Lists.{all_of, weaker_of, lt_test}
use Rattle.tg_law_programs.proofs.Transcripts.Numbers.{numbered, few_transactions, cluster_is}
use Rattle.tg_law_programs.proofs.Transcripts.Ops.{op_within, of_named, read_of}
use Rattle.tg_law_programs.proofs.Transcripts.Places.{places_near}

-- an op that was written
record Written (ws : List WriteOp) (x : Oid × AnyOp) : Type 0 where
  from : WriteOp
  has : Has ws from
  reads : all_kinds.read x.0 from.op ≡ Some x.1
  oid : from.oid ≡ x.0

written_later : (w : WriteOp) (ws : List WriteOp) (x : Oid × AnyOp) → Written ws x → Written (w ∷ ws) x
written_later w ws x k = record { from = k.from; has = inr k.has; reads = k.reads; oid = k.oid }

written : (ws : List WriteOp) (x : Oid × AnyOp) → Has (ops_of all_kinds ws) x → Written ws x
written [] x i = absurd i
written (w ∷ ws) x i = by (all_kinds.read w.oid w.op) refl i (λ j. written ws x j)
  where
    by : (o : Option AnyOp) → all_kinds.read w.oid w.op ≡ o → Has (op_if all_kinds w.oid o (ops_of all_kinds ws)) x → (Has (ops_of all_kinds ws) x → Written ws x) → Written (w ∷ ws) x
    by None is j rest = written_later w ws x (rest j)
    by (Some op) is (inl e) rest = subst (λ (y : Oid × AnyOp). Written (w ∷ ws) y) (sym e) (record { from = w; has = inl refl; reads = is; oid = refl })
    by (Some op) is (inr j) rest = written_later w ws x (rest j)

not_none : (n : ℕ) → not (suc n == 0) ≡ true
not_none n = grind arith

some_mapped : {X Y : Type 0} → (f : X → Y) (xs : List X) → (length (map f xs) == 0) ≡ false → not (length xs == 0) ≡ true
some_mapped f [] e = absurd cc
some_mapped f (x ∷ xs) e = not_none (length xs)

le_of : (a b : ℕ) → nat_le a b ≡ true → a ≤ b
le_of a b e = grind (arith, nat_tests)

header_limit : (g : Header) → IsHeader g → g.limit ≤ 1000000
header_limit g e = le_of g.limit 1000000 (and-right (nat_le 1 g.limit) _ (and-right _ _ (and-left _ _ (and-left _ _ e))))

some_append : (a b : Append) → Some a ≡ Some b → a ≡ b
some_append a b e = cc

module _ (h : Header) (ms : Moves all_kinds) (w : World all_kinds) (r : Reaches all_kinds h ms w) where
  trims : TrimsAre all_kinds h ms w
  trims = (logs_hold h ms w r).trims

  owns : EntriesOwn all_kinds h ms w
  owns = (logs_hold h ms w r).own

  records : RecordsOwn all_kinds w
  records = (logs_hold h ms w r).records

  holds : RunHolds w
  holds = runs_hold h ms w r

  legal : Legal all_kinds w.cluster.objects (history all_kinds w) (trace all_kinds w)
  legal = holds.headline.legal

  -- A commit record writes something: its transaction put it, or it marks an object.
  some_writes : (p : ℕ) (e : Entry) → HasEntry all_kinds w p e → is_commit e ≡ true → (length (writes_of e) == 0) ≡ false
  unfolding commit_record
  some_writes p e here commit = by c.work refl own.begun
    where
      own : WasBegun all_kinds h ms e
      own = owns p e here

      k : ℕ
      k = e.head.client

      c : Client all_kinds
      c = client all_kinds own.at k

      book : BookOf all_kinds k (trace all_kinds own.at) c
      book = subst (λ (u : World all_kinds). BookOf all_kinds k (trace all_kinds u) (client all_kinds u k)) (sym own.passed.is) (run_book all_kinds own.passed.before (start all_kinds h) (start_book all_kinds h) k)

      body : e.body ≡ own.append.draft.body
      body = ap (λ (x : Entry). x.body) own.draft

      drafted : (b : Body) → own.append.draft.body ≡ b → (length (writes_in b) == 0) ≡ false → (length (writes_of e) == 0) ≡ false
      drafted b is some = ap (λ (x : Body). length (writes_in x) == 0) (body ∙ is) ∙ some

      not_commit : (a : Append) → a ≡ own.append → is_commit a.draft ≡ false → (length (writes_of e) == 0) ≡ false
      not_commit a is other =
          let x : is_commit own.append.draft ≡ false = ap (λ (y : Append). is_commit y.draft) (sym is) ∙ other in
          let y : is_commit own.append.draft ≡ true = ap (λ (z : Entry). is_commit z) (sym own.draft) ∙ commit in
          absurd (no_both (is_commit own.append.draft) y x)
        where
          no_both : (b : Bool) → b ≡ true → b ≡ false → ⊥
          no_both b t f = cc

      for : (v : Work all_kinds) (a : Append) (y : Purpose all_kinds) → c.work ≡ Some v → task_in all_kinds v.hand ≡ Appending a y → a ≡ own.append → (length (writes_of e) == 0) ≡ false
      for v a Writes has is same =
          let d = subst (λ (t : Task all_kinds). DraftOf all_kinds k (trace all_kinds own.at) c.tx c.begun t) is (book.drafts v has) in
          let s = subst (λ (t : Task all_kinds). Suits all_kinds v.command t) is (book.suits v has) in
          drafted _ (ap (λ (z : Append). z.draft.body) (sym same) ∙ ap (λ (x : Entry). x.body) d.draft) (book.ending v d.of has s d.is)
      for v a Judged has is same =
          let d = subst (λ (t : Task all_kinds). DraftOf all_kinds k (trace all_kinds own.at) c.tx c.begun t) is (book.drafts v has) in
          let s = subst (λ (t : Task all_kinds). Suits all_kinds v.command t) is (book.suits v has) in
          drafted _ (ap (λ (z : Append). z.draft.body) (sym same) ∙ ap (λ (x : Entry). x.body) d.draft) (book.ending v d.of has s d.is)
      for v a (Marks n o j) has is same =
          let d = subst (λ (t : Task all_kinds). DraftOf all_kinds k (trace all_kinds own.at) c.tx c.begun t) is (book.drafts v has) in
          drafted _ (ap (λ (z : Append). z.draft.body) (sym same) ∙ d.draft.2) refl
      for v a (Decides what) has is same = not_commit a same (subst (λ (t : Task all_kinds). DraftOf all_kinds k (trace all_kinds own.at) c.tx c.begun t) is (book.drafts v has))
      for v a (Rescues what) has is same = not_commit a same (subst (λ (t : Task all_kinds). DraftOf all_kinds k (trace all_kinds own.at) c.tx c.begun t) is (book.drafts v has))
      for v a (Saves o u) has is same = not_commit a same (subst (λ (t : Task all_kinds). DraftOf all_kinds k (trace all_kinds own.at) c.tx c.begun t) is (book.drafts v has))

      task : (v : Work all_kinds) (t : Task all_kinds) → c.work ≡ Some v → task_in all_kinds v.hand ≡ t → append_of all_kinds t ≡ Some own.append → (length (writes_of e) == 0) ≡ false
      task v (Appending a y) has is f = for v a y has is (some_append a own.append f)
      task v t has is f = absurd cc

      by : (o : Option (Work all_kinds)) → c.work ≡ o → append_by all_kinds o ≡ Some own.append → (length (writes_of e) == 0) ≡ false
      by None has f = absurd cc
      by (Some v) has f = task v (task_in all_kinds v.hand) has refl f

  made : (d : DoneOf all_kinds) → Has (history all_kinds w) d → Made all_kinds [] (entries_in all_kinds w) d
  unfolding history history_of
  made d i = has_made all_kinds [] 0 (entries_in all_kinds w) d (logs_rise all_kinds w) i

  write_fits : (d : DoneOf all_kinds) (k : Made all_kinds [] (entries_in all_kinds w) d) (x : Oid × AnyOp) → Has d.writes x → write.fits x ≡ true
  write_fits d k x i =
      let z = written (writes_of k.entry) x (subst (λ (y : DoneOf all_kinds). Has y.writes x) k.is i) in
      let op = store_reads_ops h ms w r trims.were.safe k.at k.entry z.from x.1 (contained _ (k.at, k.entry) k.here) (contained _ z.from z.has) (ap (λ (o : Oid). all_kinds.read o z.from.op) z.oid ∙ z.reads) in
      both (is_named x.0) _ (of_named x.0 x.1 (read_of x.0 z.from.op x.1 z.reads)) (op_within x.1 op)

  -- what a transaction wrote are ops
  pub writes_are_ops : (d : DoneOf all_kinds) → Has (history all_kinds w) d → (x : Oid × AnyOp) → Has d.writes x → any.is_op x.1 ≡ true
  writes_are_ops d i x j =
      let k = made d i in
      let z = written (writes_of k.entry) x (subst (λ (y : DoneOf all_kinds). Has y.writes x) k.is j) in
      store_reads_ops h ms w r trims.were.safe k.at k.entry z.from x.1 (contained _ (k.at, k.entry) k.here) (contained _ z.from z.has) (ap (λ (o : Oid). all_kinds.read o z.from.op) z.oid ∙ z.reads)

  commits : (d : DoneOf all_kinds) (k : Made all_kinds [] (entries_in all_kinds w) d) → is_commit k.entry ≡ true
  commits d k = and-left (is_commit k.entry) _ k.commit

  writes_some : (d : DoneOf all_kinds) → Has (history all_kinds w) d → not (length d.writes == 0) ≡ true
  writes_some d i =
      let k = made d i in
      let here = contained _ (k.at, k.entry) k.here in
      let of = records k.at k.entry here (commits d k) in
      let some = some_writes k.at k.entry here (commits d k) in
      let puts = some_mapped (λ (x : Oid × AnyOp). write_of all_kinds x.0 x.1) (puts_of all_kinds (trace all_kinds w) k.entry.head.client k.entry.head.number) (ap (λ (ws : List WriteOp). length ws == 0) (sym of.writes) ∙ some) in
      let client = ap (λ (y : DoneOf all_kinds). y.client) k.is in
      let number = ap (λ (y : DoneOf all_kinds). y.number) k.is in
      let is : d.writes ≡ puts_of all_kinds (trace all_kinds w) k.entry.head.client k.entry.head.number = legal.entries.writes d (contained _ d i)
      ∙ (ap (λ (n : ℕ). puts_of all_kinds (trace all_kinds w) n d.number) client ∙ ap (λ (n : ℕ). puts_of all_kinds (trace all_kinds w) k.entry.head.client n) number) in
      ap (λ (ws : List (Oid × AnyOp)). not (length ws == 0)) is ∙ puts

  pub limit_few : w.cluster.limit ≤ 1000000
  limit_few = header_limit w.cluster (subst (λ (g : Header). IsHeader g) (sym (cluster_is all_kinds h ms w r)) r.header)

  pub stamp_below : (d : DoneOf all_kinds) → Has (history all_kinds w) d → d.stamp < 1000000
  stamp_below d i =
      let k = made d i in
      let less = places_near all_kinds h ms w r k.at k.entry (contained _ (k.at, k.entry) k.here) in
      let top = limit_few in
      let is = ap (λ (y : DoneOf all_kinds). y.stamp) k.is in
      omega (arith, less, top, is)

  pub transaction_fits : (d : DoneOf all_kinds) → Has (history all_kinds w) d → entry.fits d ≡ true
  transaction_fits d i =
      let t = legal.entries.ended d (contained _ d i) in
      let u = has_contained (trace all_kinds w) _ t.here in
      let m = has_map (λ (x : Told all_kinds). x.mark) w.told _ u in
      let n = (numbered all_kinds h ms w r m.of m.has).1 in
      let less : d.client < length w.clients = let is = ap (λ (x : MarkOf all_kinds). x.client) m.is in omega (arith, n, is) in
      let few = few_transactions all_kinds h ms w r _ u less in
      let stamp = stamp_below d i in
      let client = few.0 in
      both (nat_lt d.stamp (2 ^ 64)) _ (lt_test d.stamp (2 ^ 64) (omega (arith, stamp)))
      (both (nat_lt d.client 65536) _ (lt_test d.client 65536 (omega (arith, client)))
      (both (nat_lt d.number (2 ^ 32)) _ (lt_test d.number (2 ^ 32) few.1)
      (both (not (length d.writes == 0)) _ (writes_some d i) (all_of write.fits d.writes (write_fits d (made d i))))))

-- Stamps that rise, and how many there are.

pub stamps_rise : (ds : List Transaction) → Rises all_kinds ds → is_rising (stamps ds) ≡ true
stamps_rise [] k = refl
stamps_rise (d ∷ []) k = refl
stamps_rise (d ∷ e ∷ ds) k = both (nat_lt d.stamp e.stamp) _ (lt_test d.stamp e.stamp k.0.0) (stamps_rise (e ∷ ds) k.1)

-- so they are no more than the numbers below a bound
pub few_stamps : (ds : List Transaction) (low top : ℕ) → low ≤ top → Rises all_kinds ds → ((d : Transaction) → Has ds d → (low ≤ d.stamp) × (d.stamp < top)) → length ds + low ≤ top
few_stamps [] low top le k within = omega (arith, le)
few_stamps (d ∷ ds) low top le k within =
    let a = within d (inl refl) in
    let x = a.0 in
    let y = a.1 in
    let b = few_stamps ds (d.stamp + 1) top (omega (arith, y)) k.1 (λ e i. (above ds e k.0 i, (within e (inr i)).1)) in
    omega (arith, x, y, b)
  where
    above : (es : List Transaction) (e : Transaction) → AllAbove all_kinds d es → Has es e → d.stamp + 1 ≤ e.stamp
    above [] e k i = absurd i
    above (x ∷ es) e k (inl is) = let a = k.0 in let b = ap (λ (y : Transaction). y.stamp) is in omega (arith, a, b)
    above (x ∷ es) e k (inr i) = above es e k.1 i

user_named : (o : Oid) → is_user_object o ≡ true → is_named o ≡ true
user_named o e = grind (arith, nat_tests)

header_objects : (h : Header) → IsHeader h → are_objects h.objects ≡ true
header_objects h e = and-right _ _ e

objects_fit : (os : List Oid) → are_objects os ≡ true → objects.fits os ≡ true
objects_fit os e = both _ _ (weaker_of is_user_object is_named os user_named (and-right _ _ (and-left _ _ e))) e

pub histories_fit : EachHistoryFits
histories_fit h ms w r =
    let rises = (holds h ms w r).headline.rises in
    let long = few_stamps (history all_kinds w) 0 1000000 (omega arith) rises (λ d i. (omega arith, stamp_below h ms w r d i)) in
    both _ _
    (both _ _ (both _ _ (objects_fit h.objects (header_objects h r.header)) (lt_test (length (history all_kinds w)) (2 ^ 64) (omega (arith, long))))
    (all_of entry.fits (history all_kinds w) (transaction_fits h ms w r)))
    (stamps_rise (history all_kinds w) rises)
