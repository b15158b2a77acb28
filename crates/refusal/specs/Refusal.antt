-- The number of each refusal, and of an answer: 0 where the call was accepted.
use Rattle.std.specs.Prelude.{ℕ, ◌<◌, Result, Ok, Err}
use Rattle.std.proofs.Common.{lit<}
use Rattle.refusal.specs.declared.Refusal.{Refusal}
use Rattle.refusal.specs.declared.Refusal.TheVariants as R

abbrev pub number : Refusal → ℕ
number R.PaddingFraction = 1
number R.BlockingFraction = 2
number R.NotWholeRows = 3
number R.MachinePadding = 4
number R.MachineBlocking = 5
number R.StateCount = 6
number R.StatesBeyondTable = 7
number R.RowBeyondTable = 8
number R.ProbabilityWord = 9
number R.UnknownTarget = 10
number R.RepeatedTarget = 11
number R.Probability = 12
number R.ProbabilitySum = 13
number R.UnknownCode = 14
number R.InvalidDistribution = 15
number R.NoDraw = 16
number R.UnfitDraw = 17
number R.ForeignFramework = 18
number R.UnknownEvents = 19
number R.NoRoom = 20
number R.BadInput = 21
number R.BadLine = 22
number R.NoSheetRoom = 23
number R.DrawnOutside = 24

abbrev pub refusal_of : {A : Type 0} → Result A Refusal → ℕ
refusal_of (Ok a) = 0
refusal_of (Err r) = number r

-- an answer as the definitions have it: with its refusal's number
abbrev pub told : {A : Type 0} → Result A Refusal → Result A ℕ
told (Ok a) = Ok a
told (Err r) = Err (number r)

-- no refusal has the number of an accepted call
pub number_positive : (r : Refusal) → 0 < number r
number_positive R.PaddingFraction = lit< tt
number_positive R.BlockingFraction = lit< tt
number_positive R.NotWholeRows = lit< tt
number_positive R.MachinePadding = lit< tt
number_positive R.MachineBlocking = lit< tt
number_positive R.StateCount = lit< tt
number_positive R.StatesBeyondTable = lit< tt
number_positive R.RowBeyondTable = lit< tt
number_positive R.ProbabilityWord = lit< tt
number_positive R.UnknownTarget = lit< tt
number_positive R.RepeatedTarget = lit< tt
number_positive R.Probability = lit< tt
number_positive R.ProbabilitySum = lit< tt
number_positive R.UnknownCode = lit< tt
number_positive R.InvalidDistribution = lit< tt
number_positive R.NoDraw = lit< tt
number_positive R.UnfitDraw = lit< tt
number_positive R.ForeignFramework = lit< tt
number_positive R.UnknownEvents = lit< tt
number_positive R.NoRoom = lit< tt
number_positive R.BadInput = lit< tt
number_positive R.BadLine = lit< tt
number_positive R.NoSheetRoom = lit< tt
number_positive R.DrawnOutside = lit< tt
