mod Reading
mod Refuting
mod OneJudgement
mod SomeJudgement
