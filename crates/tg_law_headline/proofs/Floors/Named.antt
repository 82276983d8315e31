-- A token that is asked for names the streams of a draft, which has some.
use Rattle.std.proofs.Common.{◌≡◌, ◌⊎◌, ℕ, ◌<◌, ◌≤◌, List, [], ◌∷◌, ◌++◌, length, map, true, false, refl, sym, ap, ◌∙◌, subst, inl, inr, Some, arith, append-nil}
use Rattle.tg_base.specs.Layouts.{Layout}
use Rattle.tg_base.specs.Clusters.{Header, IsHeader}
use Rattle.tg_base.specs.declared.ids.Oid.{Oid}
use Rattle.tg_base.specs.declared.ids.Role.{Role}
use Rattle.tg_base.specs.declared.ids.Role.TheVariants as role
use Rattle.tg_base.specs.declared.marks.StreamLink.{StreamLink}
use Rattle.tg_base.specs.declared.msg.Msg.{Msg}
use Rattle.tg_base.specs.declared.msg.Msg.TheVariants as msg
use Rattle.tg_base.specs.declared.packet.Out.{Out}
use Rattle.tg_base.specs.declared.packet.Packet.{Packet}
use Rattle.tg_entry.specs.declared.entry.Entry.{Entry}
use Rattle.tg_kind.specs.Meaning.{Meaning}
use Rattle.tg_protocol.specs.Words.{client_id}
use Rattle.tg_protocol.specs.Entries.{oid_of_link, streams_of}
use Rattle.tg_protocol.specs.Pages.{page_of}
use Rattle.tg_protocol.specs.Clients.{Hand, Client}
use Rattle.tg_protocol.specs.ClientSteps.{task_in, ClientTurn}
use Rattle.tg_protocol.specs.Worlds.{World, start, packet_of}
use Rattle.tg_protocol.specs.Runs.{Move, Moves, Next as Counts, Takes, run, most_steps, LawfulCommand, Always}
use Rattle.tg_law_layouts.specs.Moves.After.{after}
use Rattle.tg_law_layouts.specs.Moves.Configs.{Config, config, client_in}
use Rattle.tg_law_layouts.specs.Moves.Telling.{is_request}
use Rattle.tg_law_layouts.proofs.Moves.Lists.{contained}
use Rattle.tg_law_layouts.proofs.Moves.Members.{Has, has_either, has_map, has_contained}
use Rattle.tg_law_layouts.proofs.Moves.Moves.{AllGive, ClientInput, Given, CasesOf, client_turn, step_cases_of}
use Rattle.tg_law_layouts.proofs.Moves.Growth.{IsCalm, unit_quiet, layout_quiet, seqr_quiet}
use Rattle.tg_law_cells.proofs.Tokens.Issues.{token_asks}
use Rattle.tg_law_cells.proofs.Tokens.Linked.{read_back}
use Rattle.tg_law_cells.proofs.Tokens.Own.{low_of, both_hold}
use Rattle.tg_law_cells.proofs.Tokens.Pages.{FromTurn, ToldLayout, AskedLatest, AskedInHand, input_fine}
use Rattle.tg_law_walks.proofs.Drafts.Ranges.{entry_streams}
use Rattle.tg_law_walks.proofs.Drafts.Drafting.{Fitting, Whole, Saving}
use Rattle.tg_law_walks.proofs.Drafts.Sound.{DraftOk, TaskOk, HandOk}
use Rattle.tg_law_walks.proofs.Drafts.Senders.{silent}
use Rattle.tg_law_walks.proofs.Drafts.Clients.{Turned, turned, few_in}
use Rattle.tg_law_walks.proofs.Drafts.Tokens.{task_token}
use Rattle.tg_law_walks.proofs.Drafts.Written.{state_at, short_at, then_next, then_takes, give_right, regroup}
use Rattle.tg_law_walks.proofs.Drafts.Drafts.{always_short}
use Rattle.tg_law_headline.specs.Floors.Tokens.{NamesSome, TokensName}

names_some : (ls : List StreamLink) → 1 ≤ length ls → NamesSome (map oid_of_link ls)
names_some [] h = absurd (omega (arith, h))
names_some (l ∷ ls) h = (l.oid, contained (map oid_of_link (l ∷ ls)) l.oid (inl refl))

draft_names : (d : Entry) → Fitting d → NamesSome (streams_of d)
draft_names d (Whole fits) = names_some d.head.streams (entry_streams (page_of d) d (read_back d (page_of d) fits refl)).some
draft_names d (Saving saves t) =
    let e : Entry = record { head = d.head; body = t.body } in
    names_some d.head.streams (entry_streams (page_of e) e (read_back e (page_of e) t.fits refl)).some

module _ (m : Meaning) (h : Header) (zs : Moves m) (header : IsHeader h) (give : AllGive m (LawfulCommand m) zs) (short : (after m h zs).steps ≤ most_steps) where
  record Asked (c : Config m) : Type 0 where
    names : (x : Packet) → Has c.packets x → x.from.role ≡ role.Client → (e : ℕ) (os : List Oid) → x.msg ≡ msg.Token e os → NamesSome os

  module _ (xs ys : Moves m) (split : zs ≡ xs ++ ys) (t : Asked (config m (after m h xs))) where
    calm : IsCalm m role.Client (config m (after m h xs)) Asked
    calm d q = record { names = λ x g from. t.names x (q.old x g from) from }

    told_no : {X : Type 0} (y : Msg) (e : ℕ) (os : List Oid) (q : Layout) → y ≡ msg.Learn q → y ≡ msg.Token e os → X
    told_no y e os q f is = absurd (no (sym f ∙ is))
      where
        no : msg.Learn q ≡ msg.Token e os → ⊥
        no i = cc

    latest_no : {X : Type 0} (y : Msg) (e : ℕ) (os : List Oid) → y ≡ msg.AskLatest → y ≡ msg.Token e os → X
    latest_no y e os f is = absurd (no (sym f ∙ is))
      where
        no : msg.AskLatest ≡ msg.Token e os → ⊥
        no i = cc

    module _ (k : ℕ) (u : ClientTurn m) (i : ClientInput m (config m (after m h xs)) k u) (lawful : Given m (LawfulCommand m) (config m (after m h xs)) k u i) (less : k < length (after m h xs).clients) where
      made : Turned m (client_in m (config m (after m h xs)) k) u
      made =
          let s = state_at m h zs header give short xs ys split in
          turned m (config m (after m h xs)) k u i lawful (few_in m h header (after m h xs) (short_at m h zs header give short xs ys split) s k less) (s.clients.sound k)

      asked_names : (o : Out) (e : ℕ) (os : List Oid) → o.msg ≡ msg.Token e os → FromTurn m u.now o → NamesSome os
      asked_names o e os is (ToldLayout q f) = told_no o.msg e os q f is
      asked_names o e os is (AskedLatest f) = latest_no o.msg e os f is
      asked_names o e os is (AskedInHand w t' has at g) =
          let a = task_token m u.now.stand t' o e os g is in
          let there : made.made.work ≡ Some w = sym (ap (λ (x : Client m). x.work) made.now) ∙ has in
          let ok : TaskOk m made.made.num (task_in m w.hand) = (subst (HandOk m made.made.num made.made.tx) there made.good.hand).2 in
          let draft : DraftOk m made.made.num a.append.draft = subst (TaskOk m made.made.num) a.is (subst (λ (d : Hand m). TaskOk m made.made.num (task_in m d)) at ok) in
          subst NamesSome (sym a.streams) (draft_names a.append.draft draft.fits)

      own : Asked (client_turn m (config m (after m h xs)) k u)
      own = record { names = λ x g from e os is. by x from e os is (has_either (after m h xs).packets (map (packet_of m (client_id k)) u.sends) x g) }
        where
          by : (x : Packet) → x.from.role ≡ role.Client → (e : ℕ) (os : List Oid) → x.msg ≡ msg.Token e os → Has (after m h xs).packets x ⊎ Has (map (packet_of m (client_id k)) u.sends) x → NamesSome os
          by x from e os is (inl g) = t.names x g from e os is
          by x from e os is (inr g) =
              let o = has_map (packet_of m (client_id k)) u.sends x g in
              let low = low_of m (config m (after m h xs)) (both_hold m h xs).0 in
              asked_names o.of e os (sym (ap (λ (y : Packet). y.msg) o.is) ∙ is) ((input_fine m (config m (after m h xs)) low (both_hold m h xs).1 k u i).from o.of o.has)

    cases : CasesOf m (LawfulCommand m) (config m (after m h xs)) Asked
    cases = record {
      idle = t;
      unit = λ u p a less. calm _ (unit_quiet m role.Client (λ e. cc) (config m (after m h xs)) u p a less);
      layout = λ l p a less. calm _ (layout_quiet m role.Client (λ e. cc) (config m (after m h xs)) l p _ a);
      seqr = λ s u i less. calm _ (seqr_quiet m role.Client (λ e. cc) (config m (after m h xs)) s u);
      client = own;
    }

  shift : (xs : Moves m) (x : Move m) (ys : Moves m) → zs ≡ xs ++ x ∷ ys → zs ≡ (xs ++ x ∷ []) ++ ys
  shift xs x ys e = e ∙ sym (regroup m xs (x ∷ []) ys)

  on_run : (xs ys : Moves m) → zs ≡ xs ++ ys → Asked (config m (after m h xs)) → Asked (config m (after m h zs))
  on_run xs [] e t = subst (λ (ms : Moves m). Asked (config m (after m h ms))) (sym (e ∙ append-nil xs)) t
  on_run xs (Counts ∷ ys) e t = on_run (xs ++ Counts ∷ []) ys (shift xs Counts ys e) (subst (λ (w : World m). Asked (config m w)) (sym (then_next m h xs)) (record { names = t.names }))
  on_run xs (Takes x ∷ ys) e t =
      on_run (xs ++ Takes x ∷ []) ys (shift xs (Takes x) ys e)
      (subst (λ (w : World m). Asked (config m w)) (sym (then_takes m h xs x)) (step_cases_of m (LawfulCommand m) (after m h xs) Asked (cases xs (Takes x ∷ ys) e t) x (give_right m xs (Takes x ∷ ys) (subst (AllGive m (LawfulCommand m)) e give)).0))

  start_asked : Asked (config m (after m h []))
  unfolding run start
  start_asked = record { names = λ x g. absurd g }

  -- each token that was asked for
  token_names : (x : Packet) (e : ℕ) (os : List Oid) → Has (after m h zs).packets x → x.msg ≡ msg.Token e os → NamesSome os
  token_names x e os g is = by x.from.role refl
    where
      no : {X : Type 0} → is_request x.msg ≡ false → X
      no f = absurd (contrary (sym (token_asks x.msg e os is) ∙ f))
        where
          contrary : true ≡ false → ⊥
          contrary z = cc

      by : (r : Role) → x.from.role ≡ r → NamesSome os
      by role.Client from = (on_run [] zs refl start_asked).names x g from e os is
      by role.Seqr from = absurd ((silent m h zs).tokens x g from e os is)
      by role.Unit from = no ((low_of m (config m (after m h zs)) (both_hold m h zs).0).all.0.0.units x g from)
      by role.Layout from = no ((low_of m (config m (after m h zs)) (both_hold m h zs).0).all.0.0.layouts x g from)

module _ (m : Meaning) where
  pub tokens_name : Always m (TokensName m)
  tokens_name h ms w r = always_short m (λ h ms w. TokensName m w) (λ h ms header give short x epoch os sent is. token_names m h ms header give short x epoch os (has_contained (after m h ms).packets x sent) is) h ms w r
