-- SPDX-License-Identifier: Apache-2.0 OR BSD-3-Clause
-- What the types of a device's trigger, events object and writer state: their relations, and the answers of a trigger.
pub mod ForAnyObject
pub mod Writer
use Rattle.std.specs.Prelude.{◌≡◌, ◌⊎◌, ℕ, List, [], ◌∷◌, Option, Result, Ok, Err, option_map, option_to_list}
use Rattle.vm_superio.specs.Serial.{Error as Failure, Trigger, Memory, Asked, Condition}

-- the relation that the type of a trigger or of an events object declares. It relates the object's value before some
-- calls, the answers to these calls (of a trigger) or the events that they report (to an events object), in order, and
-- the object's value after the calls
abbrev pub Link : (Object Call : Type 0) → Type 1
Link Object Call = Object → List Call → Object → Type 0

-- what the type of a writer declares: the bytes that a value of the type holds, or `None` if they are not known
abbrev pub Contents : (W : Type 0) → Type 0
Contents W = W → Option (List ℕ)

-- the answer to one trigger call
abbrev pub TriggerAnswer : (E : Type 0) → Type 0
TriggerAnswer E = Result (Unit {0}) E

-- the answers of a record, with the refusal that the reply has if one of the answers is a refusal
abbrev pub answers_of : {E : Type 0} → (asked : Asked) (refusal : Option E) → List (TriggerAnswer E)
answers_of Asked.Nothing refusal = []
answers_of Asked.Took refusal = Ok tt ∷ []
answers_of Asked.Refused refusal = option_to_list (option_map Err refusal)
answers_of Asked.TookTook refusal = Ok tt ∷ Ok tt ∷ []
answers_of Asked.TookRefused refusal = Ok tt ∷ option_to_list (option_map Err refusal)

module _ {E : Type 0} where
  -- a restore calls the trigger once for each condition that is due, and none of these calls is refused
  abbrev pub all_ok : (due : List Condition) → List (TriggerAnswer E)
  all_ok [] = []
  all_ok (condition ∷ due) = Ok tt ∷ all_ok due

  -- a restore calls the trigger once for each of the first conditions that are due, up to a refusal, which ends the
  -- restore
  abbrev pub StopsAtRefusal : (due : List Condition) (refusal : E) (answers : List (TriggerAnswer E)) → Type 0
  StopsAtRefusal [] refusal answers = ⊥
  StopsAtRefusal (condition ∷ due) refusal [] = ⊥
  StopsAtRefusal (condition ∷ due) refusal (answer ∷ answers) =
      ((answer ≡ Err refusal) × (answers ≡ []))
      ⊎ ((answer ≡ Ok tt) × StopsAtRefusal due refusal answers)

-- why a restore from a port's own state failed, and which calls the trigger had. Either the trigger refused one of the
-- calls that are due, or memory was refused and the trigger was not called. Too many bytes are never the reason,
-- because a port holds at most 64
abbrev pub RefusesOwnState :
    {T E : Type 0} → (link : Link T (TriggerAnswer E)) (due : List Condition) (error : Failure E) (old new : T) → Type 0
RefusesOwnState {T} {E} link due (Trigger refusal) old new =
    (answers : List (TriggerAnswer E)) × StopsAtRefusal due refusal answers × link old answers new
RefusesOwnState link due Memory old new = new ≡ old
RefusesOwnState link due _ old new = ⊥
