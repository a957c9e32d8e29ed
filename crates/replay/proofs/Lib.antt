mod Numbers
mod Replies
mod Scripts
