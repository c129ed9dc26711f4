use Rattle.std.proofs.Common.{rules, ◌≡◌, ℕ, ◌-◌, List, ◌++◌, take, drop, sym, ◌∙◌, ap, subst}
use Rattle.std.proofs.lemmas.List.{drop-append-le, append-nil}
use Rattle.vab_fbtcp.specs.Frame.{More, found_of, bytes_of, place_after, IsIdle}
use Rattle.vab_fbtcp.specs.Unread.{place_of, unread_of}
use Rattle.vab_exchanges.specs.Reading.{IsNext, Suits, stands_at, rest_of, all_of}
use Rattle.vab_exchanges.proofs.ReaderLaws.{listens_idle}
use Rattle.vab_exchanges.proofs.Events.{Found_at, event_found, part_in_buffer, nothing_more}
use Rattle.vab_exchanges.proofs.Events.{place_after-More}
use Rattle.vab_exchanges.proofs.Stops.{in_any_result, unless_then}
use Rattle.std.proofs.Common.{Err}
use Rattle.vab_exchanges.specs.Reading.{UnlessSource}
use Rattle.vab_exchanges.proofs.reader.Reader.next.Goals as goal

found : (g : _) (c : goal.In_default g)
    → Found_at c.args.due (place_of c.loop-event.self.framer)
    (unread_of c.loop-event.self.framer) c.loop-event.self.piece c.in_ok-event.event
found g c =
    let long = c.loop-event.invariant.fed.0 in
    event_found _ _ _ _ _ (sym c.in_ok-event.ensures.event) c.in_default.not-NeedMore long
    (part_in_buffer _ _ _ _ c.loop-event.invariant.fed.1 long c.in_ok-event.ensures.part)

pub returns-in_default-clause-suits : goal.returns-in_default-clause-suits
returns-in_default-clause-suits g c =
    subst (λ p. Suits c.args.due p c.in_ok-event.event) c.loop-event.invariant.place
    (found g c).suits

pub returns-in_default-clause-event : goal.returns-in_default-clause-event
returns-in_default-clause-event g c =
    λ t. subst (λ (l : List ℕ). IsNext l c.loop-event.self.piece c.in_ok-event.event)
    (c.loop-event.invariant.rest t) ((found g c).next _)

pub returns-in_default-clause-rest : goal.returns-in_default-clause-rest
returns-in_default-clause-rest g c = λ t.
    let n = bytes_of (found_of c.in_ok-event.event) in
    let room = c.loop-event.self.budget.most - c.loop-event.self.budget.taken in
    let more = take room (g.P.Disk.input_left c.loop-event.p) in
    ap (λ (l : List ℕ). l ++ more) c.in_ok-event.ensures.unread
    ∙ sym (drop-append-le n (unread_of c.loop-event.self.framer) more (found g c).taken)
    ∙ ap (λ (l : List ℕ). drop n l) (c.loop-event.invariant.rest t)

-- where nothing more comes, what has come is all
module _ (g : _) (c : goal.Then-not-branch g) where
  more : found_of c.in_ok-event.event ≡ More
  more = ap found_of c.in-NeedMore.is

  same : unread_of c.hear.new.self.framer ≡ unread_of c.next.new.self
  same = let both = rw c.if-not-branch.true at c.in_ok-hear.ensures.none in both.0

  all_held : (t : g.P.Disk.is_modelled)
      → unread_of c.next.new.self ≡ rest_of c.args.self.now (g.P.Disk.input_left c.args.p.now)
  all_held t =
      let budget = c.loop-event.self.budget in
      let left = g.P.Disk.input_left c.hear.new.p in
      let end = rw c.if-not-branch.true at c.in_ok-hear.ensures.end t in
      let all : rest_of c.hear.new.self left ≡ unread_of c.next.new.self =
      ap (λ (l : List ℕ). unread_of c.hear.new.self.framer ++ l)
      (nothing_more c.hear.new.self.budget.taken c.hear.new.self.budget.most left end)
      ∙ append-nil (unread_of c.hear.new.self.framer)
      ∙ same in
      let stays : unread_of c.next.new.self ≡ unread_of c.loop-event.self.framer =
      c.in_ok-event.ensures.unread
      ∙ ap (λ f. drop (bytes_of f) (unread_of c.loop-event.self.framer)) more in
      sym all
      ∙ c.in_ok-hear.ensures.rest t
      ∙ ap
      (λ (l : List ℕ). l
      ++ take (budget.most - budget.taken) (g.P.Disk.input_left c.loop-event.p)) stays
      ∙ c.loop-event.invariant.rest t

pub returns-then-not-branch-clause-held : goal.returns-then-not-branch-clause-held
returns-then-not-branch-clause-held g c = λ t. same g c ∙ all_held g c t

pub returns-then-not-branch-clause-none : goal.returns-then-not-branch-clause-none
returns-then-not-branch-clause-none g c = λ t.
    let idle : IsIdle (place_of c.next.new.self) (unread_of c.next.new.self) =
    c.in_ok-event.ensures.idle c.in-NeedMore.is in
    let place : place_of c.next.new.self ≡ stands_at c.args.self.now =
    c.in_ok-event.ensures.place
    ∙ ap (λ f. place_after (place_of c.loop-event.self.framer) f) (more g c)
    ∙ place_after-More (place_of c.loop-event.self.framer)
    ∙ c.loop-event.invariant.place in
    subst (λ p. IsIdle p (rest_of c.args.self.now (g.P.Disk.input_left c.args.p.now))) place
    (subst (λ (l : List ℕ). IsIdle (place_of c.next.new.self) l) (all_held g c t) idle)

pub returns-in_err-hear-clause-listens : goal.returns-in_err-hear-clause-listens
returns-in_err-hear-clause-listens g c =
    let inv = c.loop-event.invariant in
    let self = c.loop-event.self in
    let more : found_of c.in_ok-event.event ≡ More = ap found_of c.in-NeedMore.is in
    let stays : unread_of c.next.new.self ≡ unread_of self.framer =
    c.in_ok-event.ensures.unread
    ∙ ap (λ f. drop (bytes_of f) (unread_of self.framer)) more in
    let place : place_of c.next.new.self ≡ stands_at c.args.self.now =
    c.in_ok-event.ensures.place
    ∙ ap (λ f. place_after (place_of self.framer) f) more
    ∙ place_after-More (place_of self.framer)
    ∙ inv.place in
    listens_idle g.P.Disk c.args.p.now c.loop-event.p c.hear.new.p
    (stands_at c.args.self.now) (place_of c.next.new.self)
    (unread_of self.framer) (unread_of c.next.new.self)
    (all_of c.args.self.now (g.P.Disk.input_left c.args.p.now))
    (self.budget.most - self.budget.taken)
    inv.listens
    (λ t i. sym (inv.rest t) i ++ sym (inv.beyond t) i)
    stays place (c.in_ok-event.ensures.idle c.in-NeedMore.is)
    c.hear.ensures.listens

pub returns-then-not-branch-clause-listens : goal.returns-then-not-branch-clause-listens
returns-then-not-branch-clause-listens g c =
    let inv = c.loop-event.invariant in
    let self = c.loop-event.self in
    let more : found_of c.in_ok-event.event ≡ More = ap found_of c.in-NeedMore.is in
    let stays : unread_of c.next.new.self ≡ unread_of self.framer =
    c.in_ok-event.ensures.unread
    ∙ ap (λ f. drop (bytes_of f) (unread_of self.framer)) more in
    let place : place_of c.next.new.self ≡ stands_at c.args.self.now =
    c.in_ok-event.ensures.place
    ∙ ap (λ f. place_after (place_of self.framer) f) more
    ∙ place_after-More (place_of self.framer)
    ∙ inv.place in
    listens_idle g.P.Disk c.args.p.now c.loop-event.p c.hear.new.p
    (stands_at c.args.self.now) (place_of c.next.new.self)
    (unread_of self.framer) (unread_of c.next.new.self)
    (all_of c.args.self.now (g.P.Disk.input_left c.args.p.now))
    (self.budget.most - self.budget.taken)
    inv.listens
    (λ t i. sym (inv.rest t) i ++ sym (inv.beyond t) i)
    stays place (c.in_ok-event.ensures.idle c.in-NeedMore.is)
    c.hear.ensures.listens

pub loop-event-preserved : goal.loop-event-preserved
loop-event-preserved g c = record {
  listens =
      let inv = c.loop-event.invariant in
      let self = c.loop-event.self in
      let more : found_of c.in_ok-event.event ≡ More = ap found_of c.in-NeedMore.is in
      let stays : unread_of c.next.new.self ≡ unread_of self.framer =
      c.in_ok-event.ensures.unread
      ∙ ap (λ f. drop (bytes_of f) (unread_of self.framer)) more in
      let place : place_of c.next.new.self ≡ stands_at c.args.self.now =
      c.in_ok-event.ensures.place
      ∙ ap (λ f. place_after (place_of self.framer) f) more
      ∙ place_after-More (place_of self.framer)
      ∙ inv.place in
      listens_idle g.P.Disk c.args.p.now c.loop-event.p c.hear.new.p
      (stands_at c.args.self.now) (place_of c.next.new.self)
      (unread_of self.framer) (unread_of c.next.new.self)
      (all_of c.args.self.now (g.P.Disk.input_left c.args.p.now))
      (self.budget.most - self.budget.taken)
      inv.listens
      (λ t i. sym (inv.rest t) i ++ sym (inv.beyond t) i)
      stays place (c.in_ok-event.ensures.idle c.in-NeedMore.is)
      c.hear.ensures.listens;
  place = search rules;
  rest = search rules;
  fed = search rules;
  room = search rules;
  beyond = search rules;
  steady = search rules;
  count = search rules;
  most = search rules;
}

pub returns-in_err-event-clause-steady : goal.returns-in_err-event-clause-steady
returns-in_err-event-clause-steady g c =
    in_any_result _ c.from_residual.result c.loop-event.invariant.steady

pub returns-in_err-hear-clause-steady : goal.returns-in_err-hear-clause-steady
returns-in_err-hear-clause-steady g c =
    let fault = c.in_err-hear.field-0.0 in
    let is : c.from_residual-in_err-hear.result ≡ Err fault = search rules in
    let P : Type 0 = g.P.Disk.faults c.hear.new.p ≡ g.P.Disk.faults c.loop-event.p in
    let Q : Type 0 = g.P.Disk.faults c.hear.new.p ≡ g.P.Disk.faults c.args.p.now in
    subst (λ r. UnlessSource Q r) (sym is)
    (unless_then P Q fault (λ same. same ∙ c.loop-event.invariant.steady)
    c.in_err-hear.ensures.steady)
