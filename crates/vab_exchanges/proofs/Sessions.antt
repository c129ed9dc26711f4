-- The session of an input.
use Rattle.std.proofs.Common.{◌≡◌, inl, inr, ℕ, ◌+◌, ◌-◌, ◌≤◌, Bool, true, false, IsTrue, nat_le}
use Rattle.std.proofs.Common.{if◌then◌else◌, List, [], ◌++◌, length, get_or, take, drop, Option}
use Rattle.std.proofs.Common.{None, refl, sym, ◌∙◌, ap, subst, arith, length-take, take-append-drop}
use Rattle.std.proofs.Common.{get_or-drop}
use Rattle.std.proofs.lemmas.Bool.{cases_eq}
use Rattle.std.proofs.lemmas.Bool.Decides.{nat_tests}
use Rattle.std.proofs.lemmas.List.{drop_at}
use Rattle.vab_fbtcp.specs.Hello.{is_hello}
use Rattle.vab_exchanges.specs.Session.{Exchange, End, Closed, Rebooted, BadHello, TooLong, Overrun}
use Rattle.vab_exchanges.specs.Session.{Cut, Spent, spent, IsRead, Follows, HasNoHello, Reads}
use Rattle.vab_exchanges.specs.Session.{IsSession}
use Rattle.vab_exchanges.proofs.Packets.{AreBytes, split_of, taken_byte, same_read}

pub record AnySession (most : ℕ) (refused : ℕ → Bool) (input : List ℕ) : Type 0 where
  pub exchanges : List Exchange
  pub unfinished : Option (List ℕ)
  pub end : End
  pub session : IsSession most refused input exchanges unfinished end

dropped_byte : (l : List ℕ) (n : ℕ) → AreBytes l → AreBytes (drop n l)
dropped_byte l n are k =
    let at : get_or (drop n l) k 0 ≡ get_or l (n + k) 0 = get_or-drop n l k 0 in
    omega (arith, are (n + k), at)

no_hello : (most : ℕ) (refused : ℕ → Bool) (input : List ℕ) (end : End)
    → HasNoHello (length (take most input)) (take most input) end
    → AnySession most refused input
no_hello most refused input end none = record {
  exchanges = [];
  unfinished = None;
  end = if nat_le most (length input) then spent end else end;
  session = record { first = end; reads = inr (refl, refl, none); follows = tt; ends = refl };
}

pub any_session : (most : ℕ) (refused : ℕ → Bool) (input : List ℕ)
    → AreBytes input
    → AnySession most refused input
any_session most refused input are = elim (cases_eq (4 - length (take most input)) 0) [
  | inl long ↦ by_hello (is_hello (take 4 (take most input))) refl (omega (arith, long))
  | inr few ↦ no_hello most refused input (Cut (length (take most input)))
      (refl, omega (arith, few))
]
  where
    by_hello : (b : Bool)
        → is_hello (take 4 (take most input)) ≡ b
        → 4 ≤ length (take most input)
        → AnySession most refused input
    by_hello true found long =
        let heard = take most input in
        let s =
        split_of (length (drop 4 heard)) (length heard) refused 0 (drop 4 heard)
        (omega arith) (dropped_byte heard 4 (λ k. taken_byte input most k are)) in
        record {
          exchanges = s.exchanges;
          unfinished = s.unfinished;
          end = if nat_le most (length input) then spent s.end else s.end;
          session = record {
            first = s.end;
            reads =
                inl
                (record {
                  hello = found;
                  later = drop 4 heard;
                  whole = sym (take-append-drop 4 heard);
                  read = s.read;
                });
            follows = s.follows;
            ends = refl;
          };
        }
    by_hello false other long = no_hello most refused input BadHello (long, other)

pub append_front : (front x y : List ℕ) → front ++ x ≡ front ++ y → x ≡ y
append_front front x y is =
    sym (drop_at front x (length front) refl)
    ∙ ap (λ (l : List ℕ). drop (length front) l) is
    ∙ drop_at front y (length front) refl

pub hello_or_not : (heard : List ℕ) (e : End)
    → IsTrue (is_hello (take 4 heard))
    → HasNoHello (length heard) heard e
    → ⊥
hello_or_not heard BadHello tested none =
    let found : is_hello (take 4 heard) ≡ true = tested in let other = none.1 in cc
hello_or_not heard (Cut at) tested none =
    let four : length (take 4 heard) ≡ 4 = grind (arith, nat_tests) in
    omega (arith, none.1, four, length-take 4 heard)
hello_or_not heard Closed tested none = none
hello_or_not heard Spent tested none = none
hello_or_not heard Rebooted tested none = none
hello_or_not heard (TooLong n) tested none = none
hello_or_not heard (Overrun due came) tested none = none

same_none : (heard : List ℕ) (d e : End)
    → HasNoHello (length heard) heard d
    → HasNoHello (length heard) heard e
    → d ≡ e
same_none heard (Cut at) (Cut at') a b = ap Cut (a.0 ∙ sym b.0)
same_none heard BadHello BadHello a b = refl
same_none heard (Cut at) BadHello a b = absurd (omega (arith, a.1, b.0))
same_none heard BadHello (Cut at) a b = absurd (omega (arith, a.0, b.1))
same_none heard d Closed a b = absurd b
same_none heard d Rebooted a b = absurd b
same_none heard d Spent a b = absurd b
same_none heard d (TooLong n) a b = absurd b
same_none heard d (Overrun due came) a b = absurd b
same_none heard Closed e a b = absurd a
same_none heard Rebooted e a b = absurd a
same_none heard Spent e a b = absurd a
same_none heard (TooLong n) e a b = absurd a
same_none heard (Overrun due came) e a b = absurd a

-- what was read of one input is one
same_first : (refused : ℕ → Bool) (heard : List ℕ) (ss ts : List Exchange)
    (u v : Option (List ℕ)) (d e : End)
    → Reads heard ss u d
    → Reads heard ts v e
    → Follows refused 0 ss u
    → Follows refused 0 ts v
    → (ss ≡ ts) × (u ≡ v) × (d ≡ e)
same_first refused heard ss ts u v d e (inl a) (inl b) f g =
    let later : a.later ≡ b.later = append_front (take 4 heard) _ _ (sym a.whole ∙ b.whole) in
    same_read (length heard) refused 0 a.later ss ts u v d e a.read
    (subst (λ (l : List ℕ). IsRead (length heard) l ts v e) (sym later) b.read) f g
same_first refused heard ss ts u v d e (inl a) (inr b) f g =
    absurd (hello_or_not heard e a.hello b.2)
same_first refused heard ss ts u v d e (inr a) (inl b) f g =
    absurd (hello_or_not heard d b.hello a.2)
same_first refused heard ss ts u v d e (inr a) (inr b) f g =
    (a.0 ∙ sym b.0, a.1 ∙ sym b.1, same_none heard d e a.2 b.2)

pub only_one : (most : ℕ) (refused : ℕ → Bool) (input : List ℕ)
    (exchanges others : List Exchange) (u v : Option (List ℕ)) (end other : End)
    → IsSession most refused input exchanges u end
    → IsSession most refused input others v other
    → (exchanges ≡ others) × (u ≡ v) × (end ≡ other)
only_one most refused input exchanges others u v end other a b =
    let both =
    same_first refused (take most input) exchanges others u v a.first b.first a.reads b.reads
    a.follows b.follows in (
      both.0,
      both.1,
      a.ends
          ∙ ap (λ (e : End). if nat_le most (length input) then spent e else e) both.2
          ∙ sym b.ends,
    )
