-- Answers of functions that may run out of memory.
use Rattle.std.specs.Prelude.{◌≡◌, Option, None, Result, Ok, Err}

-- the answer is this value, unless it is this error
abbrev pub IsUnless : {X E : Type 0} → (want : E) → (value : X) → Result X E → Type 0
IsUnless want value (Ok x) = x ≡ value
IsUnless want value (Err e) = e ≡ want

-- the answer has this view, unless it is this error
abbrev pub HasViewUnless : {X Y E : Type 0} → (view : X → Y) → (want : E) → (value : Y) → Result X E → Type 0
HasViewUnless view want value (Ok x) = view x ≡ value
HasViewUnless view want value (Err e) = e ≡ want

-- there is no fault and the answer is the value, or the answer is an error that the fault allows
abbrev pub ValueOrFault : {X F E : Type 0} → (Allows : Option F → E → Type 0) → (fault : Option F) → (value : X)
    → Result X E → Type 0
ValueOrFault Allows fault value (Ok x) = (fault ≡ None) × (x ≡ value)
ValueOrFault Allows fault value (Err e) = Allows fault e
