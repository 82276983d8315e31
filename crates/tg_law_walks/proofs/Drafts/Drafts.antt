-- An entry of the log is a draft that its client had in hand, with the links that were issued to it.
use Rattle.std.proofs.Common.{◌≡◌, ◌⊎◌, ℕ, ◌≤◌, List, [], ◌∷◌, map, Bool, true, refl, sym, ap, ◌∙◌, subst, inl, inr, Option, Some, arith}
use Rattle.std.specs.Prelude.{◌&&◌}
use Rattle.tg_base.specs.Clusters.{Header, IsHeader}
use Rattle.tg_base.specs.declared.cell.Cell.TheVariants.{Data}
use Rattle.tg_base.specs.declared.ids.Oid.{Oid}
use Rattle.tg_base.specs.declared.marks.StreamLink.{StreamLink}
use Rattle.tg_base.specs.declared.msg.Msg.TheVariants as msg
use Rattle.tg_base.specs.declared.packet.Packet.{Packet}
use Rattle.tg_entry.specs.declared.entry.Entry.{Entry}
use Rattle.tg_entry.specs.declared.entry.Head.{Head}
use Rattle.tg_entry.specs.Format.{tag_of}
use Rattle.tg_append.proofs.Pages.{linked_fits}
use Rattle.tg_kind.specs.Meaning.{Meaning}
use Rattle.tg_protocol.specs.Words.{client_id}
use Rattle.tg_base.specs.Orders.{oid_eq}
use Rattle.tg_protocol.specs.Entries.{oid_of_link, streams_of}
use Rattle.tg_entry.specs.Records.{linked}
use Rattle.tg_protocol.specs.Pages.{entry_of}
use Rattle.tg_protocol.specs.Appending.{is_link, names_all, Append}
use Rattle.tg_protocol.specs.Clients.{Task, Work, Client}
use Rattle.tg_protocol.specs.Worlds.{World, start, log}
use Rattle.tg_protocol.specs.Runs.{Moves, most_steps, LawfulCommand, Always, AlwaysBy}
use Rattle.tg_protocol.specs.Alike.{HasEntry}
use Rattle.tg_protocol.specs.Holding.{EntriesLinked, append_of, append_by, WasBegun}
use Rattle.tg_law_layouts.specs.Moves.After.{after}
use Rattle.tg_law_layouts.specs.Moves.Configs.{config, client_in}
use Rattle.tg_law_layouts.proofs.Moves.Always.{lawful_give}
use Rattle.tg_law_layouts.proofs.Moves.Members.{Has, has_contained}
use Rattle.tg_law_layouts.proofs.Moves.Lists.{contained}
use Rattle.tg_law_layouts.proofs.Moves.Moves.{AllGive}
use Rattle.tg_law_cells.proofs.Tokens.Owning.{Wrote}
use Rattle.tg_law_cells.proofs.Tokens.Archive.{log_sent}
use Rattle.tg_law_cells.proofs.Tokens.Linked.{some_entry, page_in, read_back}
use Rattle.tg_law_walks.specs.Drafts.Drafts.{HeadWasBegun, EntriesBegun, RecordsBegun}
use Rattle.tg_law_walks.proofs.Drafts.Heads.{SameHead, HasTwin, head_read}
use Rattle.tg_law_walks.proofs.Drafts.Drafting.{Fitting, Whole, Saving}
use Rattle.tg_law_walks.proofs.Drafts.Became.{Holds}
use Rattle.tg_law_walks.proofs.Drafts.Written.{Drafted, written}
use Rattle.tg_law_walks.proofs.Drafts.Senders.{sender}

-- Links name the streams.

both : (a b : Bool) → (a && b) ≡ true → (a ≡ true) × (b ≡ true)
both a b e = grind arith

same_oid : (o p : Oid) → oid_eq o p ≡ true → o ≡ p
same_oid o p e = let n : o.0 ≡ p.0 = grind (arith, e) in λ i. record { 0 = n i }

pub named : (os : List Oid) (ls : List StreamLink) → names_all os ls ≡ true → map oid_of_link ls ≡ os
named [] [] e = refl
named [] (l ∷ ls) e = absurd cc
named (o ∷ os) [] e = absurd cc
named (o ∷ os) (l ∷ ls) e =
    let f = both (oid_eq o l.oid && is_link l) (names_all os ls) e in
    let g = both (oid_eq o l.oid) (is_link l) f.0 in
    let a = same_oid o l.oid g.0 in
    let b = named os ls f.1 in
    λ i. sym a i ∷ b i

-- A draft with links has a spelling, or its head has.

pub twin_of : (d : Entry) (ls : List StreamLink) → names_all (streams_of d) ls ≡ true → Fitting d → HasTwin (linked d ls)
twin_of d ls names (Whole fits) = record { body = d.body; tag = refl; fits = linked_fits d ls names fits }
twin_of d ls names (Saving saves t) = record { body = t.body; tag = t.tag; fits = linked_fits (record { head = d.head; body = t.body }) ls names t.fits }

module _ (m : Meaning) where
  pub begun_of : (c : Client m) (a : Append) → (h : Holds m c a) → append_by m c.work ≡ Some a
  begun_of c a h = ap (λ (w : Option (Work m)). append_by m w) h.has ∙ ap (λ (t : Task m). append_of m t) h.holds

module _ (m : Meaning) (h : Header) (zs : Moves m) (header : IsHeader h) (give : AllGive m (LawfulCommand m) zs) (short : (after m h zs).steps ≤ most_steps) where
  -- where an entry comes from
  pub record Source (p : ℕ) (e : Entry) : Type 0 where
    pub epoch : ℕ
    pub page : List ℕ
    pub drafted : Drafted m h zs header give short e.head.client epoch p page
    pub reads : entry_of page ≡ Some e
    pub same : SameHead (linked drafted.append.draft drafted.links) e
    pub wrote : Packet
    pub sent : Has (after m h zs).packets wrote
    pub from : wrote.from ≡ client_id e.head.client
    pub writes : wrote.msg ≡ msg.Write epoch p page
    pub here : Has (log m (after m h zs)) (p, Data page)

  -- of a page that was sent
  pub sourced : (p : ℕ) (e : Entry) (x : Packet) (k epoch : ℕ) (page : List ℕ) → Has (after m h zs).packets x → x.from ≡ client_id k → x.msg ≡ msg.Write epoch p page → entry_of page ≡ Some e
      → (d : Drafted m h zs header give short k epoch p page) × SameHead (linked d.append.draft d.links) e × (k ≡ e.head.client)
  sourced p e x k epoch page g from is reads =
      let d = (written m h zs header give short).sent x g k from epoch p page is in
      let s = head_read (linked d.append.draft d.links) e (twin_of d.append.draft d.links d.names d.ok.fits) (ap entry_of (sym d.page) ∙ reads) in
      (d, s, sym (ap (λ (y : Head). y.client) s.head ∙ d.ok.client))

  pub source : (p : ℕ) (e : Entry) → HasEntry m (after m h zs) p e → Source p e
  source p e i =
      let k = page_in (log m (after m h zs)) p e (has_contained _ (p, e) i) in
      let t : Wrote (after m h zs).packets p k.page = log_sent m h zs p (Data k.page) k.here in
      let from = sender m h zs t.packet t.sent t.epoch p k.page t.is in
      let d = sourced p e t.packet t.packet.from.num t.epoch k.page t.sent from t.is k.reads in
      subst (λ (n : ℕ). (x : Drafted m h zs header give short n t.epoch p k.page) → SameHead (linked x.append.draft x.links) e → t.packet.from ≡ client_id n → Source p e) (sym d.2) (λ x s f. record {
        epoch = t.epoch;
        page = k.page;
        drafted = x;
        reads = k.reads;
        same = s;
        wrote = t.packet;
        sent = t.sent;
        from = f;
        writes = t.is;
        here = k.here;
      }) d.0 d.1 from

  linked_here : EntriesLinked m (after m h zs)
  linked_here p e i =
      let s = source p e i in
      let x = s.drafted in
      record {
        rid = x.answer.rid;
        sent = record {
          packet = x.answer;
          sent = contained (after m h zs).packets x.answer x.sent;
          to = x.to;
          number = refl;
          says = x.issues ∙ ap (λ (ls : List StreamLink). msg.Issued p ls) (sym (ap (λ (y : Head). y.streams) s.same.head));
        };
      }

  -- what is read is what was drafted, or a checkpoint with its head
  begun_here : EntriesBegun m h zs (after m h zs)
  begun_here p e i = by x.ok.fits
    where
      s : Source p e
      s = source p e i

      x : Drafted m h zs header give short e.head.client s.epoch p s.page
      x = s.drafted

      links : e.head.streams ≡ x.links
      links = ap (λ (y : Head). y.streams) s.same.head

      streams : streams_of e ≡ streams_of x.append.draft
      streams = ap (λ (ls : List StreamLink). map oid_of_link ls) links ∙ named (streams_of x.append.draft) x.links x.names

      by : Fitting x.append.draft → HeadWasBegun m h zs e
      by (Whole fits) = record {
        at = after m h x.before;
        passed = record { before = x.before; after = x.later; split = x.split; is = refl };
        append = x.append;
        begun = begun_of m (client_in m (config m (after m h x.before)) e.head.client) x.append x.holds;
        head = s.same.head ∙ ap (λ (ls : List StreamLink). (linked x.append.draft ls).head) (sym links);
        body = inl (ap (λ (y : Entry). y.body) (some_entry e (linked x.append.draft x.links) (sym s.reads ∙ read_back (linked x.append.draft x.links) s.page (linked_fits x.append.draft x.links x.names fits) x.page)));
        streams = streams;
      }
      by (Saving saves t) = record {
        at = after m h x.before;
        passed = record { before = x.before; after = x.later; split = x.split; is = refl };
        append = x.append;
        begun = begun_of m (client_in m (config m (after m h x.before)) e.head.client) x.append x.holds;
        head = s.same.head ∙ ap (λ (ls : List StreamLink). (linked x.append.draft ls).head) (sym links);
        body = inr (s.same.tag ∙ saves, saves);
        streams = streams;
      }

module _ (m : Meaning) where
  pub always_short : (P : Header → Moves m → World m → Type 0) → ((h : Header) (ms : Moves m) → IsHeader h → AllGive m (LawfulCommand m) ms → (after m h ms).steps ≤ most_steps → P h ms (after m h ms)) → AlwaysBy m P
  always_short P f h ms w r = subst (P h ms) (sym r.goes.is) (f h ms r.header (lawful_give m (start m h).cluster ms r.goes.lawful) (subst (λ (v : World m). v.steps ≤ most_steps) r.goes.is r.goes.few))

  pub entries_are_linked : Always m (EntriesLinked m)
  entries_are_linked h ms w r = always_short (λ g xs v. EntriesLinked m v) (λ g xs header give short. linked_here m g xs header give short) h ms w r

  pub entries_were_begun : AlwaysBy m (EntriesBegun m)
  entries_were_begun = always_short (EntriesBegun m) (λ g xs header give short. begun_here m g xs header give short)

  -- the draft itself
  whole : (g : Header) (xs : Moves m) (e : Entry) → HeadWasBegun m g xs e → (tag_of e.body ≡ 3 → ⊥) → WasBegun m g xs e
  whole g xs e b never = record {
    at = b.at;
    passed = b.passed;
    append = b.append;
    begun = b.begun;
    draft = by b.body;
    streams = b.streams;
  }
    where
      by : (e.body ≡ b.append.draft.body) ⊎ ((tag_of e.body ≡ 3) × (tag_of b.append.draft.body ≡ 3)) → e ≡ linked b.append.draft e.head.streams
      by (inl same) = λ i. record { head = b.head i; body = same i }
      by (inr saves) = absurd (never saves.0)

  pub records_were_begun : AlwaysBy m (RecordsBegun m)
  records_were_begun g xs w r p e i never = whole g xs e (entries_were_begun g xs w r p e i) never
