-- Each reply of a script keeps the grammar, and so does the whole.
use Rattle.std.proofs.Common.{◌≡◌, ℕ, ◌<◌, ◌≤◌, ◌^◌, length, true, sym, subst, arith}
use Rattle.std.specs.Prelude.{nat_lt}
use Rattle.tg_codec.proofs.Laws.{both, and-left, and-right}
use Rattle.tg_protocol.specs.Worlds.{Told, start, trace}
use Rattle.tg_any.specs.AllKinds.{all_kinds}
use Rattle.tg_trace.specs.Transcripts.{Reply, reply, is_transcript}
use Rattle.tg_replay.specs.Headline.{TranscriptsFit}
use Rattle.tg_replay.specs.Runs.{Script, IsScript, Worlds, world_of}
use Rattle.tg_model.specs.declared.command.Event.TheVariants.{Command as Commands}
use Rattle.tg_model.specs.Kinds.{CommandOf}
use Rattle.tg_protocol.specs.Runs.{Takes, Reaches}
use Rattle.tg_trace.specs.Replies.{what_fits}
use Rattle.tg_law_layouts.specs.Moves.After.{after}
use Rattle.tg_law_layouts.proofs.Moves.Members.{Has, Image, has_map}
use Rattle.tg_law_programs.proofs.Scripts.Reaching.{each_script_reaches}
use Rattle.tg_law_programs.specs.Transcripts.Fits.{is_numbered, tells_within, EachIsNumbered, EachTells, EachFits}
use Rattle.tg_law_programs.proofs.Transcripts.Lists.{all_of, both_of, lt_test}
use Rattle.tg_law_programs.proofs.Transcripts.Commanded.{given_ok}
use Rattle.tg_law_programs.proofs.Transcripts.Events.{few_events}
use Rattle.tg_law_programs.proofs.Transcripts.Fitting.{tells_fit}
use Rattle.tg_law_programs.proofs.Transcripts.Given.{CommandOk}
use Rattle.tg_law_programs.proofs.Transcripts.Large.{size_near}
use Rattle.tg_law_programs.proofs.Transcripts.Moves.{IsLed, each_script_led}
use Rattle.tg_law_programs.proofs.Transcripts.Passed.{Named, OpOk, AskOk}
use Rattle.tg_law_programs.proofs.Transcripts.Stepped.{end_state}
use Rattle.tg_law_programs.proofs.Transcripts.Numbers.{numbered, few_transactions}
use Rattle.tg_law_programs.proofs.Transcripts.Histories.{histories_fit}

-- the world of a script is at the last of its events
events_in : (s : Script) → (world_of s).event ≤ length s.events
unfolding start
events_in s = let a = few_events s.events (start all_kinds s.header) in omega (arith, a)

module _ (s : Script) (is : IsScript s) (few : length s.events < 2 ^ 64) where
  abbrev w : Worlds
  w = world_of s

  numbers_of : (u : Reply) → Has (trace all_kinds w) u → is_numbered u ≡ true
  numbers_of u i =
      let r = each_script_reaches s is in
      let t = has_map (λ (t : Told all_kinds). t.mark) w.told u i in
      let n = numbered all_kinds s.header r.moves w r.reaches t.of t.has in
      let event = subst (λ (v : Reply). v.event ≤ w.event) (sym t.is) n.0 in
      let client = subst (λ (v : Reply). v.client < length w.clients) (sym t.is) n.1 in
      let x = few_transactions all_kinds s.header r.moves w r.reaches u i client in
      let e = events_in s in
      both (nat_lt u.event (2 ^ 64)) _ (lt_test u.event (2 ^ 64) (omega (arith, event, e, few)))
      (both (nat_lt u.client 65536) _ (lt_test u.client 65536 (let c = x.0 in omega (arith, c))) (lt_test u.tx (2 ^ 32) x.1))

-- What each reply tells is within its type.
module _ (s : Script) (is : IsScript s) where
  l : IsLed s
  l = each_script_led s is

  reached : Reaches all_kinds s.header l.moves (after all_kinds s.header l.moves)
  reached = subst (Reaches all_kinds s.header l.moves) l.reaches.goes.is l.reaches

  gives : (k : ℕ) (x : CommandOf all_kinds) → Has l.moves (Takes (Commands k x)) → CommandOk all_kinds Named OpOk AskOk x
  gives k x j = given_ok s.header l.reaches.header x (l.lawful k x j) (l.given (Takes (Commands k x)) j)

  tells_of : (u : Reply) → Has (trace all_kinds (world_of s)) u → tells_within u ≡ true
  tells_of u i =
      let m : Image (λ (t : Told all_kinds). t.mark) (after all_kinds s.header l.moves).told u =
      has_map (λ (t : Told all_kinds). t.mark) (after all_kinds s.header l.moves).told u (subst (λ (w : Worlds). Has (trace all_kinds w) u) l.reaches.goes.is i) in
      subst (λ (v : Reply). what_fits v.what ≡ true) (sym m.is)
      (tells_fit s.header l.moves reached (end_state s.header l.moves reached gives).told m.of m.has (λ b e. size_near s.header l.moves reached gives m.of b m.has e))

pub replies_tell : EachTells
replies_tell s is = all_of tells_within (trace all_kinds (world_of s)) (tells_of s is)

pub replies_are_numbered : EachIsNumbered
replies_are_numbered s is few = all_of is_numbered (trace all_kinds (world_of s)) (numbers_of s is few)

one_fits : (u : Reply) → is_numbered u ≡ true → tells_within u ≡ true → reply.fits u ≡ true
one_fits u n t =
    let rest = and-right (nat_lt u.event (2 ^ 64)) _ n in
    both _ _ (and-left (nat_lt u.event (2 ^ 64)) _ n) (both _ _ (and-left (nat_lt u.client 65536) _ rest) (both _ _ (and-right (nat_lt u.client 65536) _ rest) t))

-- So the whole is a transcript.
pub each_fits : EachFits
unfolding is_transcript
each_fits s is few =
    let r = each_script_reaches s is in
    let e = histories_fit s.header r.moves (world_of s) r.reaches in
    let three = and-left _ _ e in
    let two = and-left _ _ three in
    let replies = both_of is_numbered tells_within reply.fits (trace all_kinds (world_of s)) one_fits (replies_are_numbered s is few) (replies_tell s is) in
    both _ _ (both _ _ (both _ _ (both _ _ (and-left _ _ two) replies) (and-right _ _ two)) (and-right _ _ three)) (and-right _ _ e)

pub transcripts_fit : TranscriptsFit
transcripts_fit s is within few = each_fits s is few
