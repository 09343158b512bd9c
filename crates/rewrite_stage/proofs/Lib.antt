mod Steps
mod Rule
