-- SPDX-License-Identifier: Apache-2.0 OR BSD-3-Clause
-- Two links for objects of any type, each with the two laws that a trait requires: one for an object that contracts say
-- nothing about, such as one that signals a file descriptor, and one for events objects that fold their events.
use Rattle.std.specs.Prelude.{◌≡◌, ◌↔◌, ⊤, List, [], ◌∷◌, ◌++◌, fold}
use Rattle.std.proofs.Common.{sym, subst, ap, ◌∙◌}
use Rattle.std.proofs.lemmas.List.Sums.{fold-append}

-- ---- an object that contracts say nothing about

-- without a call the object is the same, and after one it may have any value
abbrev pub SameWithoutCall : {Object Call : Type 0} → (old : Object) (calls : List Call) (new : Object) → Type 0
SameWithoutCall old [] new = old ≡ new
SameWithoutCall old (call ∷ calls) new = ⊤

-- an object that was not called is the same. Nothing is stated about one that was called
pub record AnyCalls {Object Call : Type 0} (old : Object) (calls : List Call) (new : Object) : Type 0 where
  pub same : SameWithoutCall old calls new

-- the law `empty`
pub AnyCalls-nil : {Object Call : Type 0} (old new : Object) → AnyCalls {Call = Call} old [] new ↔ (old ≡ new)
AnyCalls-nil old new = (λ silent. silent.same, λ same. record { same = same })

-- the law `append`
pub AnyCalls-append :
    {Object Call : Type 0} (old between new : Object) (first second : List Call) →
    AnyCalls old first between → AnyCalls between second new → AnyCalls old (first ++ second) new
AnyCalls-append old between new [] second to_between to_new = record {
  same = subst (λ object. SameWithoutCall object second new) (sym to_between.same) to_new.same;
}
AnyCalls-append old between new (call ∷ first) second to_between to_new = record { same = tt }

-- ---- an events object that folds its events, by a function that says what one event does to its value

-- the new value is the old one after a step for each event, in order
pub record FoldsCalls
    {State Event : Type 0} (step : State → Event → State) (old : State) (events : List Event) (new : State) :
    Type 0 where
  pub folds : new ≡ fold step old events

-- the law `empty`: no event leaves the value as it is, and relates no other values
pub FoldsCalls-nil :
    {State Event : Type 0} {step : State → Event → State} (old new : State) → FoldsCalls step old [] new ↔ (old ≡ new)
FoldsCalls-nil old new = (λ stays. sym stays.folds, λ same. record { folds = sym same })

-- the law `append`: events that follow each other are one list of events
pub FoldsCalls-append :
    {State Event : Type 0} {step : State → Event → State} (old between new : State) (first second : List Event) →
    FoldsCalls step old first between → FoldsCalls step between second new →
    FoldsCalls step old (first ++ second) new
FoldsCalls-append {step = step} old between new first second to_between to_new = record {
  folds =
      to_new.folds ∙ ap (λ state. fold step state second) to_between.folds
      ∙ sym (fold-append step old first second);
}
