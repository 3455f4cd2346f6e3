mod Trials
mod Kept
mod Firsts
mod Chains
mod Orders
mod Carries
