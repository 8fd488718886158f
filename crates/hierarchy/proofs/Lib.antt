mod BelowLaws
mod EntryLaws
mod AnswerLaws
mod WalkLaws
mod SettleLaws
mod CircleLaws
