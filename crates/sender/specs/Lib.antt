-- What a sender gets of a batch's answer, and the budgets of the calls that it makes.
pub mod Reply
pub mod Budget
